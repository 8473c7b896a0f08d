use Rattle.std.proofs.Common.{◌≡◌, ◌++◌, ◌%◌, ℕ, List, codes, ap, ◌∙◌}
use Rattle.wav_file.specs.Bext.{bext_back, bext_front, date_text, time_text}
use Rattle.wav_file.proofs.HeaderLemmas.{before}
use Rattle.wav_file.proofs.bext.bext_chunk.Goals as goal

pub returns : goal.returns
returns c =
    let h : List ℕ = c.new-chunk.result.items in
    let i1 : List ℕ = c.push_front.new.chunk.items in
    let i2 : List ℕ = c.push_date.new.text.items in
    let i3 : List ℕ = c.push_time.new.text.items in
    let i4 : List ℕ = c.push_back.new.chunk.items in
    let date = c.date_at-date.result in
    let p1 : List ℕ = bext_front in
    let p2 : List ℕ = date_text (codes "-") date in
    let p3 : List ℕ = time_text (codes ":") (c.args.at % 4147200000) in
    let p4 : List ℕ = bext_back (c.args.at % 4147200000) in
    let a1 : i1 ≡ h ++ p1 = c.push_front.ensures.items in
    let a2 : i2 ≡ i1 ++ p2 = c.push_date.ensures.items in
    let a3 : i3 ≡ i2 ++ p3 = c.push_time.ensures.items in
    let a4 : i4 ≡ i3 ++ p4 = c.push_back.ensures.items in
    record {
      date = date;
      day = c.date_at-date.ensures;
      octets = before h i1 i4 p1 (p2 ++ (p3 ++ p4)) a1 (before i1 i2 i4 p2 (p3 ++ p4) a2 (before i2 i3 i4 p3 p4 a3 a4)) ∙ ap (λ l. l ++ (p1 ++ (p2 ++ (p3 ++ p4)))) c.new-chunk.ensures;
    }
