-- The engine of a configuration's octets, and the reasons why octets make none.
use Rattle.std.specs.Prelude.{◌≡◌, ◌⊎◌, ◌<◌, false, ℕ, List, [], length, Some, None, IsUtf8}
use Rattle.toml.specs.Data.{Members}
use Rattle.toml.specs.Parse.{parse_document}
use Rattle.studio_config.specs.Config.{config_fault_of, studio_of}
use Rattle.studio_config.specs.declared.config.fault.SpecError.{SpecError}
use Rattle.studio_engine.specs.Engine.{EngineState}
use Rattle.darbexum_c.specs.declared.open.OpenFault.{OpenFault}
use Rattle.darbexum_c.specs.declared.open.OpenFault.TheVariants.{NoToml, NoStudio, Memory}
use Rattle.studio_engine.specs.Session.{HasSession}

-- the octets are a configuration without fault, and the engine is its studio's, before its first event
pub record IsOpened (octets : List ℕ) (engine : EngineState) : Type 0 where
  pub members : Members
  pub text : IsUtf8 octets
  pub reads : parse_document octets ≡ Some members
  pub fine : config_fault_of members ≡ None
  pub stands : HasSession (studio_of members) engine [] []
  pub idle : engine.turning ≡ false

-- the octets are too many, or no TOML in UTF-8
abbrev pub IsNoToml : List ℕ → Type 0
IsNoToml octets = (1048576 < length octets) ⊎ (IsUtf8 octets → parse_document octets ≡ None)

-- the octets are a document, which has this first fault as a configuration
pub record IsNoStudio (octets : List ℕ) (fault : SpecError) : Type 0 where
  pub members : Members
  pub text : IsUtf8 octets
  pub reads : parse_document octets ≡ Some members
  pub fault_is : config_fault_of members ≡ Some fault

-- the reason why octets make no engine; an allocation may fail for any octets
abbrev pub IsOpenFault : List ℕ → OpenFault → Type 0
IsOpenFault octets NoToml = IsNoToml octets
IsOpenFault octets (NoStudio fault) = IsNoStudio octets fault
IsOpenFault octets Memory = Unit {0}
