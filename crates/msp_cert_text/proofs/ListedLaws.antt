-- The lines that each job has: what is read next, line by line.
use Rattle.std.proofs.Common.{◌≡◌, ℕ, suc, ◌+◌, List, [], ◌∷◌, ◌++◌, length, drop, get_or, slice_get, Some, Result, Ok, Err, refl, sym, ap, ◌∙◌, add-one, drop-cons}
use Rattle.std.proofs.lemmas.Option.{slice_get-get_or, slice_get_within, same_Some}
use Rattle.msp_grammar.specs.declared.lines.fault.FileFault.{FileFault}
use Rattle.msp_grammar.specs.declared.lines.fault.FileFault.TheVariants.{Memory}
use Rattle.msp_grammar.specs.lines.Answers.{Fails}
use Rattle.msp_grammar.specs.lines.Reading.{◌>>=◌, Place}
use Rattle.msp_cert_text.specs.Reading.{named_line_at, numbers_at}
use Rattle.msp_grammar.proofs.reading.LineLaws.{bind_again}

-- the names from a place on
names_from : (names : List (List ℕ)) (k : ℕ) (name : List ℕ) → Some name ≡ slice_get names k → drop k names ≡ name ∷ drop (k + 1) names
names_from names k name e =
    let within = slice_get_within names k name (sym e) in
    let is : name ≡ get_or names k [] = same_Some name (get_or names k []) (e ∙ slice_get-get_or names k [] within) in
    rw (add-one, drop-cons names k [] within) (ap (λ (w : List ℕ). w ∷ drop (suc k) names) (sym is))

numbers_on : {A : Type 0} (read : ℕ → List ℕ → Result A FileFault) (word : List ℕ) (before : ℕ) (numbers : List A) (names : List (List ℕ)) (k count : ℕ) (name : List ℕ) (p : Place)
    → Some name ≡ slice_get names k → count ≡ before + length numbers
    → numbers_at read word before numbers (drop k names) p
    ≡ (named_line_at word count name p >>= λ line. read p.at line.0 >>= λ number. numbers_at read word before (numbers ++ number ∷ []) (drop (k + 1) names) line.1)
unfolding numbers_at
numbers_on read word before numbers names k count name p e c = rw (names_from names k name e, c) refl

pub numbers_goes : {A : Type 0} (read : ℕ → List ℕ → Result A FileFault) (word : List ℕ) (before : ℕ) (numbers : List A) (names : List (List ℕ))
    (k count : ℕ) (name : List ℕ) (p q : Place) (field : List ℕ) (x : A) → Some name ≡ slice_get names k → count ≡ before + length numbers
    → named_line_at word count name p ≡ Ok (field, q)
    → read p.at field ≡ Ok x → numbers_at read word before numbers (drop k names) p ≡ numbers_at read word before (numbers ++ x ∷ []) (drop (k + 1) names) q
numbers_goes read word before numbers names k count name p q field x e c f g =
    numbers_on read word before numbers names k count name p e c ∙ bind_again _ _ _ _ f (bind_again _ _ _ _ g refl)

-- a fault of a step is the fault of the whole
fault_of : {A : Type 0} (r : Result A FileFault) (e : FileFault) → r ≡ Err e → Fails e r
fault_of r Memory h = tt
fault_of r e h = h

fails_too : {A B : Type 0} (r : Result A FileFault) (s : Result B FileFault) (e : FileFault) → (r ≡ Err e → s ≡ Err e) → Fails e r → Fails e s
fails_too r s Memory f h = tt
fails_too r s e f h = f h

pub numbers_stop : {A : Type 0} (read : ℕ → List ℕ → Result A FileFault) (word : List ℕ) (before : ℕ) (numbers : List A)
    (names : List (List ℕ)) (k count : ℕ) (name : List ℕ) (p : Place) (fault : FileFault) → Some name ≡ slice_get names k → count ≡ before + length numbers
    → Fails fault (named_line_at word count name p) → Fails fault (numbers_at read word before numbers (drop k names) p)
numbers_stop read word before numbers names k count name p fault e c f = fails_too _ _ fault (λ h. numbers_on read word before numbers names k count name p e c ∙ rw h refl) f

pub numbers_break : {A : Type 0} (read : ℕ → List ℕ → Result A FileFault) (word : List ℕ) (before : ℕ) (numbers : List A) (names : List (List ℕ))
    (k count : ℕ) (name : List ℕ) (p q : Place) (field : List ℕ) (fault : FileFault) → Some name ≡ slice_get names k → count ≡ before + length numbers
    → named_line_at word count name p ≡ Ok (field, q) → Err fault ≡ read p.at field → Fails fault (numbers_at read word before numbers (drop k names) p)
numbers_break read word before numbers names k count name p q field fault e c f g =
    fault_of _ fault (numbers_on read word before numbers names k count name p e c ∙ bind_again _ _ _ _ f (rw (sym g) refl))

pub ruleset numbers_rules = (numbers_goes, numbers_stop, numbers_break)
