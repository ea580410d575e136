-- Texts that are put one after another.
use Rattle.std.proofs.Common.{◌≡◌, ℕ, ◌+◌, List, ◌++◌, length, take, Result, Ok, Err, sym, subst, inl, inr, arith}
use Rattle.std.proofs.lemmas.List.{take-append-le, length-append}
use Rattle.std.specs.Result.{IsErrAnd}
use Rattle.std.proofs.lemmas.Result.{err_from_is_err_and}
use Rattle.std.proofs.Math.Seq.{take-append-add}
use Rattle.msp_io.specs.Views.{SinkView}
use Rattle.msp_io.specs.Sinks.{KeepsLaws}
use Rattle.msp_io.specs.Whole.{Puts}
use Rattle.msp_io.specs.declared.whole.WriteFault.{WriteFault}
use Rattle.msp_top.specs.Run.{IsTold, note_line}

-- the first text stopped
pub puts-stop : (took broke : List ℕ → Type 0) (a b : List ℕ) (e f : WriteFault) → Puts took broke a (Err e) → Puts took broke (a ++ b) (Err f)
puts-stop took broke a b e f h = record {
  all = tt;
  stopped = (h.stopped.0, omega (arith, h.stopped.1, length-append a b), subst broke (sym (take-append-le h.stopped.0 a b (omega (arith, h.stopped.1)))) h.stopped.2);
}

-- a function ends where its first text stopped
pub puts-exit : (Q : WriteFault → Type 0) (took broke : List ℕ → Type 0) (a b : List ℕ) (r : Result (Unit {0}) WriteFault) (e : WriteFault)
    → IsErrAnd r Q → Puts took broke a (Err e) → Puts took broke (a ++ b) r
puts-exit Q took broke a b r e is h = let q = err_from_is_err_and {Q = Q} r is in subst (Puts took broke (a ++ b)) (sym q.1) (puts-stop took broke a b e q.0 h)

-- the first text was put whole, and then the second
pub puts-then : {K : Type 0} {seen : K → SinkView} {took broke : K → K → List ℕ → Type 0} → KeepsLaws seen took broke → (s t u : K) (a b : List ℕ) (r : Result (Unit {0}) WriteFault) (x : Unit {0}) →
    Puts (took s t) (broke s t) a (Ok x) → Puts (took t u) (broke t u) b r → Puts (took s u) (broke s u) (a ++ b) r
puts-then laws s t u a b (Ok y) x p q = record { all = laws.joined s t u a b p.all q.all; stopped = tt }
puts-then {broke = broke} laws s t u a b (Err y) x p q = record {
  all = tt;
  stopped = (
    length a + q.stopped.0,
    omega (arith, q.stopped.1, length-append a b),
    subst (broke s u) (sym (take-append-add a b q.stopped.0)) (laws.joined_fault s t u a (take q.stopped.0 b) p.all q.stopped.2),
  );
}

pub puts-along : (took broke : List ℕ → Type 0) (a b : List ℕ) (r : Result (Unit {0}) WriteFault) → a ≡ b → Puts took broke a r → Puts took broke b r
puts-along took broke a b r e h = subst (λ text. Puts took broke text r) e h

-- a line that is put is told
pub told : (took broke : List ℕ → Type 0) (text : List ℕ) (r : Result (Unit {0}) WriteFault) → Puts took broke (note_line text) r → IsTold took broke text
told took broke text (Ok x) h = inl h.all
told took broke text (Err e) h = inr h.stopped
