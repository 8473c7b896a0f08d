use Rattle.std.proofs.Common.{◌≡◌, ℕ, List, take, ◌++◌, rules, Option, Some, None, arith, ap, sym, ◌∙◌, append_assoc, length-append}
use Rattle.std.specs.Io.KnownBytes.{Consumes}
use Rattle.studio_run.proofs.text_io.read_octets.Goals as goal

-- two runs of octets, one after the other
consumes_both : (a b c : Option (List ℕ)) (xs ys : List ℕ) → Consumes a b xs → Consumes b c ys → Consumes a c (xs ++ ys)
consumes_both None b c xs ys p q = tt
consumes_both (Some u) None c xs ys p q = absurd p
consumes_both (Some u) (Some v) None xs ys p q = absurd q
consumes_both (Some u) (Some v) (Some w) xs ys p q = p ∙ ap (λ l. xs ++ l) q ∙ sym (append_assoc xs ys w)

pub returns-in-Ok-clause-long : goal.returns-in-Ok-clause-long
returns-in-Ok-clause-long g c too_many = (
  c.reads.text.items ++ take c.in-Ok.count c.read.new.buf,
  omega (arith, length-append c.reads.text.items (take c.in-Ok.count c.read.new.buf), c.if-count-len.true, c.len.ensures, c.reads.text.ok, c.in-Ok.ensures.bound),
  consumes_both _ _ _ c.reads.text.items (take c.in-Ok.count c.read.new.buf) c.reads.invariant.taken c.in-Ok.ensures.bytes.0,
)

pub overflow_sub-len : goal.overflow_sub-len
overflow_sub-len g c = omega (arith, c.len.ensures, c.reads.text.ok, c.reads.invariant.fits)

pub returns-in-Err-clause-long : goal.returns-in-Err-clause-long
returns-in-Err-clause-long g c too_many = absurd (cc)

pub returns-clause-long : goal.returns-clause-long
returns-clause-long g c too_many = absurd (cc)

pub reads-preserved : goal.reads-preserved
reads-preserved g c =
    let got : List ℕ = take c.in-Ok.count c.read.new.buf in
    let added : c.push_chunk.new.text.items ≡ c.reads.text.items ++ got = search rules in
    record {
      fits = rw added (omega (arith, length-append c.reads.text.items got, c.if-count-len.false, c.len.ensures, c.reads.text.ok, c.in-Ok.ensures.bound));
      taken = rw added (consumes_both _ _ _ c.reads.text.items got c.reads.invariant.taken c.in-Ok.ensures.bytes.0);
    }
