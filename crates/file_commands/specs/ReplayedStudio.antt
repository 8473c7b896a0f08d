-- The studio that a replay plays: that of a configuration, with the changes of a text of gains.
use Rattle.std.specs.Prelude.{◌≡◌, ℕ, pos, List, map, Some, Ok}
use Rattle.studio_config.specs.Studio.{Studio}
use Rattle.studio_config.specs.Shift.{shifted}
use Rattle.studio_run.specs.GainsLines.{schedule_after}
use Rattle.pcap_file.specs.Entries.{entries_of}
use Rattle.pcap_file.specs.Described.{interfaces_of}
use Rattle.pcap_replay.specs.Record.{opening_in}
use Rattle.pcap_replay.specs.RecordedPaths.{ArePathsOf, texts_of}
use Rattle.pcap_replay.specs.declared.recording.RecordedPath.{RecordedPath}

-- the same studio, but the gains change as the text says
pub record HasGains (studio : Studio) (text : List ℕ) (changed : Studio) : Type 0 where
  pub gains : schedule_after studio.schedule text ≡ Ok changed.schedule
  pub others : changed ≡ record studio { schedule = changed.schedule }

-- the record that begins with these octets is of a run of the studio: the paths that it describes before its first packet
-- are those of the studio's streams
pub record IsRunOfStudio (front : List ℕ) (studio : Studio) : Type 0 where
  pub paths : List RecordedPath
  pub described : map texts_of paths ≡ interfaces_of front
  pub same : ArePathsOf 0 studio.streams paths

-- for a record that begins with these octets, of a run of the studio: the studio opens when that run did, its planned
-- changes move by as much, and then it has the changes of the text
pub record IsRecorded (front : List ℕ) (studio : Studio) (text : List ℕ) (played : Studio) : Type 0 where
  pub run : IsRunOfStudio front studio
  pub opening : ℕ
  pub opened : opening_in (entries_of front) ≡ Some opening
  pub changed : HasGains (shifted (pos opening) studio) text played
