-- What tells that two readings are one.
use Rattle.std.proofs.Common.{◌≡◌, ◌≢◌, Result, Ok, Err, refl, ap}
use Rattle.msp_grammar.specs.lines.Answers.{Fails, seen}
use Rattle.msp_grammar.specs.declared.lines.fault.FileFault.{FileFault}
use Rattle.msp_grammar.specs.declared.lines.fault.FileFault.TheVariants.{Memory}
use Rattle.msp_grammar.proofs.reading.LineLaws.{reads, ok_is}

pub err_is : {A : Type 0} (e f : FileFault) → ◌≡◌ {A = Result A FileFault} (Err e) (Err f) → e ≡ f
err_is e f h = cc

pub not_fails : {A : Type 0} (e : FileFault) (x : A) → e ≢ Memory → Fails e (reads x) → ⊥
not_fails Memory x m h = m refl
not_fails e x m h = absurd cc

-- what was seen is one thing, where the view tells values apart
pub seen_is : {X Y : Type 0} (view : X → Y) → ((x y : X) → view x ≡ view y → x ≡ y) → (r s : Result X FileFault) → seen view r ≡ seen view s → r ≡ s
seen_is view one (Ok r) (Ok s) h = ap Ok (one r s (ok_is (view r) (view s) h))
seen_is view one (Err e) (Err f) h = cc
seen_is view one _ _ h = absurd cc
