-- Lines that are read one by one, up to the end.
use Rattle.std.proofs.Common.{◌≡◌, ℕ, zero, suc, ◌<◌, ◌≤◌, List, length, Option, None, Some, Result, Ok, Err, refl, sym, ap, ◌∙◌, arith, length-append}
use Rattle.std.specs.List.{join_with_byte}
use Rattle.msp_grammar.specs.ScheduleText.{line_feed}
use Rattle.msp_grammar.specs.InstanceText.{line_text}
use Rattle.msp_grammar.specs.lines.Answers.{Fails}
use Rattle.msp_grammar.specs.declared.lines.fault.FileFault.{FileFault}
use Rattle.msp_grammar.specs.declared.lines.fault.FileFault.TheVariants.{Memory}
use Rattle.msp_grammar.specs.lines.Reading.{◌>>=◌, Place, LineRead, job_read, more_read, end_read, goes_on, lines_by}
use Rattle.msp_grammar.proofs.reading.LineLaws.{bind_ok, ok_is, Takes, Gets}

pub line_less : (ws : List (List ℕ)) (p q : Place) → Takes p (line_text ws) q → length q.rest < length p.rest
line_less ws p q t = let k = ap length t in omega (arith, length-append (line_text ws) q.rest, length-append (join_with_byte 32 ws) line_feed)

-- The way in which lines are read, up to the place after them.
abbrev pub Reader : Type 0 → Type 0
Reader A = A → Place → Result (A × Place) FileFault

-- What a loop has still to read: what is read from here on is the whole.
pub record Leaves {A : Type 0} (step : A → Place → Result (LineRead A) FileFault) (other : Option (Reader A)) (d : A) (p : Place) (whole : Result (A × Place) FileFault) : Type 0 where
  pub most : ℕ
  pub enough : length p.rest < most
  pub is : lines_by step other most d p ≡ whole

-- What comes after a line has this said of it.
abbrev pub Follows : {A : Type 0} → Option (Reader A) → (A → Place → A × Place → Type 0) → LineRead A → A × Place → Type 0
Follows other Taken (job_read e q) x = Taken e q x
Follows None Taken (more_read e q) x = Taken e q x
Follows (Some last) Taken (more_read e q) x = last e q ≡ Ok x
Follows other Taken (end_read e q) x = x ≡ (e, q)

follows : {A : Type 0} (other : Option (Reader A)) (Taken : A → Place → A × Place → Type 0) (next : Reader A) → ((e : A) (q : Place) (x : A × Place) → next e q ≡ Ok x → Taken e q x)
    → (line : LineRead A) (x : A × Place) → goes_on other next line ≡ Ok x → Follows other Taken line x
follows other Taken next h (job_read e q) x is = h e q x is
follows None Taken next h (more_read e q) x is = h e q x is
follows (Some last) Taken next h (more_read e q) x is = is
follows {A} other Taken next h (end_read e q) x is = let last : A × Place = (e, q) in sym (ok_is last x is)

module _ {A : Type 0} (step : A → Place → Result (LineRead A) FileFault) (other : Option (Reader A)) where
  line_from : (n : ℕ) (d : A) (p : Place) (line : Result (LineRead A) FileFault) (whole : Result (A × Place) FileFault) → step d p ≡ line → length p.rest < n
      → lines_by step other n d p ≡ whole → (m : ℕ) × (length p.rest ≤ m) × ((line >>= goes_on other (lines_by step other m)) ≡ whole)
  unfolding lines_by
  line_from zero d p line whole h enough is = absurd (omega arith)
  line_from (suc n) d p line whole h enough is = (n, omega arith, ap (λ r. r >>= goes_on other (lines_by step other n)) (sym h) ∙ is)

  -- what a line leaves to the lines after it
  pub leaves_line : (d : A) (p : Place) (line : Result (LineRead A) FileFault) (whole : Result (A × Place) FileFault) → step d p ≡ line → Leaves step other d p whole
      → (m : ℕ) × (length p.rest ≤ m) × ((line >>= goes_on other (lines_by step other m)) ≡ whole)
  leaves_line d p line whole h l = line_from l.most d p line whole h l.enough l.is

  pub leaves_all : (d e : A) (p : Place) → d ≡ e → Leaves step other d p (lines_by step other (suc (length p.rest)) e p)
  leaves_all d e p same = record { most = suc (length p.rest); enough = omega arith; is = ap (λ x. lines_by step other (suc (length p.rest)) x p) same }

  pub leaves_next : (d e : A) (p q : Place) (line : LineRead A) (whole : Result (A × Place) FileFault) → step d p ≡ Ok line
      → ((next : Reader A) → goes_on other next line ≡ next e q) → length q.rest < length p.rest → Leaves step other d p whole → Leaves step other e q whole
  leaves_next d e p q line whole h same less l = let k = leaves_line d p (Ok line) whole h l in record { most = k.0; enough = omega (arith, k.1); is = sym (same (lines_by step other k.0)) ∙ k.2 }

  pub leaves_last : (d e : A) (p q : Place) (whole : Result (A × Place) FileFault) → step d p ≡ Ok (end_read e q) → Leaves step other d p whole → whole ≡ Ok (e, q)
  leaves_last d e p q whole h l = sym (leaves_line d p (Ok (end_read e q)) whole h l).2

  pub leaves_fault : (d : A) (p : Place) (whole : Result (A × Place) FileFault) (e : FileFault) → Fails e (step d p) → Leaves step other d p whole → Fails e whole
  leaves_fault d p whole Memory h l = tt
  leaves_fault d p whole e h l = sym (leaves_line d p (Err e) whole h l).2

  -- what was read
  pub lines_take : (Taken : A → Place → A × Place → Type 0)
      → ((d : A) (p : Place) (line : LineRead A) (x : A × Place) → step d p ≡ Ok line → Follows other Taken line x → Taken d p x)
      → (n : ℕ) (d : A) (p : Place) (x : A × Place) → lines_by step other n d p ≡ Ok x → Taken d p x
  unfolding lines_by
  lines_take Taken on zero d p x e = absurd cc
  lines_take Taken on (suc n) d p x e =
      let l = bind_ok (step d p) (goes_on other (lines_by step other n)) x e in
      on d p l.0 x l.1 (follows other Taken (lines_by step other n) (lines_take Taken on n) l.0 x l.2)

  -- the same after a line that is read before the others
  pub first_take : (Taken : A → Place → A × Place → Type 0)
      → ((d : A) (p : Place) (line : LineRead A) (x : A × Place) → step d p ≡ Ok line → Follows other Taken line x → Taken d p x)
      → (d : A) (p : Place) (x : A × Place) → (step d p >>= goes_on other (λ e q. lines_by step other (suc (length q.rest)) e q)) ≡ Ok x → Taken d p x
  first_take Taken on d p x e =
      let l = bind_ok (step d p) (goes_on other (λ e q. lines_by step other (suc (length q.rest)) e q)) x e in
      on d p l.0 x l.1 (follows other Taken (λ e q. lines_by step other (suc (length q.rest)) e q) (λ e q x h. lines_take Taken on _ e q x h) l.0 x l.2)

  -- Reading lines gives the value and leaves the rest.
  abbrev pub GetsLines : A → Place → A → List ℕ → Type 0
  GetsLines d p x rest = (n : ℕ) → length p.rest < n → Gets (lines_by step other n d p) x rest

  -- what was written
  pub line_gets : (d : A) (p : Place) (line : LineRead A) (x : A) (rest : List ℕ) → step d p ≡ Ok line
      → ((n : ℕ) → length p.rest ≤ n → Gets (goes_on other (lines_by step other n) line) x rest) → GetsLines d p x rest
  unfolding lines_by
  line_gets d p line x rest h k zero enough = absurd (omega arith)
  line_gets d p line x rest h k (suc n) enough = let g = k n (omega arith) in (g.0, ap (λ r. r >>= goes_on other (lines_by step other n)) h ∙ g.1)
