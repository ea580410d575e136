-- Reading the lines of an instance gives faults of lines alone.
use Rattle.std.proofs.Common.{ℕ, Bool, true, false, List, [], ◌∷◌, length, Result, Ok, Err}
use Rattle.msp_class.specs.declared.class.Class.{Class}
use Rattle.msp_instance.specs.declared.Need.{Need}
use Rattle.msp_instance.specs.declared.Step.{Step}
use Rattle.msp_name.specs.Reading.{reading_of}
use Rattle.msp_class.specs.declared.sizes.TheConstants.{GREATEST, GREATEST_SPEED}
use Rattle.msp_grammar.specs.declared.lines.fault.What.{What}
use Rattle.msp_grammar.specs.declared.lines.fault.FileFault.{FileFault}
use Rattle.msp_grammar.specs.declared.lines.fault.FileFault.TheVariants.{Class as ClassBroken, Cycle, Memory, After}
use Rattle.msp_grammar.specs.declared.lines.fault.What.TheVariants as what
use Rattle.msp_file.specs.declared.instance.draft.Draft.{Draft}
use Rattle.msp_grammar.specs.lines.Reading.{natural_at, integer_at, known_at, machine_at}
use Rattle.msp_file.specs.instance.Reading.{keyed_at, natural_key_at, integer_key_at, keys_at, job_line_at, with_need, times_at, timed_route_at, machine_route_at}
use Rattle.msp_file.specs.instance.Reading.{operations_at, with_step, steps_at, curve_fields_at, arc_line_at}
use Rattle.msp_file.specs.instance.Reading.{class_in, spelled_class, speeds_in}
use Rattle.msp_grammar.proofs.reading.LineFaults.{IsPlainFault, InBy, IsPlain, fine, bad, chain, given, natural_plain, ordinal_plain}
use Rattle.msp_grammar.proofs.reading.LineFaults.{integer_plain, named_plain, known_plain}

-- The fault is one of a line.
abbrev pub IsLineFault : FileFault → Type 0
IsLineFault (ClassBroken fault name) = ⊥
IsLineFault (Cycle job name) = ⊥
IsLineFault Memory = ⊥
IsLineFault (After at) = ⊥
IsLineFault _ = Unit {0}

abbrev pub InLines : {A : Type 0} → Result A FileFault → Type 0
InLines r = InBy IsLineFault r

plain_is : (e : FileFault) → IsPlainFault e → IsLineFault e
plain_is (ClassBroken fault name) h = h
plain_is (Cycle job name) h = h
plain_is Memory h = h
plain_is (After at) h = h
plain_is _ h = tt

pub widen : {A : Type 0} (r : Result A FileFault) → IsPlain r → InLines r
widen r h = record { fault = λ e k. plain_is e (h.fault e k) }

pub natural : (at : ℕ) (q : What) (least greatest : ℕ) (w : List ℕ) → InLines (natural_at at q least greatest w)
natural at q least greatest w = widen _ (natural_plain at q least greatest w)

integer : (at : ℕ) (q : What) (greatest : ℕ) (w : List ℕ) → InLines (integer_at at q greatest w)
integer at q greatest w = widen _ (integer_plain at q greatest w)

known : (at : ℕ) (names : List (List ℕ)) (w : List ℕ) → InLines (known_at at names w)
known at names w = widen _ (known_plain at names w)

keyed : (at letter : ℕ) (w : List ℕ) → InLines (keyed_at at letter w)
keyed at letter (k ∷ e ∷ w) = given _ _ _ tt (fine w)
keyed at letter _ = bad _ tt

natural_key : (at : ℕ) (b : Bool) (letter : ℕ) (q : What) (least greatest : ℕ) (fields : List (List ℕ)) → InLines (natural_key_at at b letter q least greatest fields)
unfolding natural_key_at
natural_key at false letter q least greatest fields = fine _
natural_key at true letter q least greatest fields = chain _ _ (keyed at letter _) (λ w. chain _ _ (natural at q least greatest w) (λ n. fine _))

integer_key : (at : ℕ) (b : Bool) (letter : ℕ) (q : What) (greatest : ℕ) (fields : List (List ℕ)) → InLines (integer_key_at at b letter q greatest fields)
unfolding integer_key_at
integer_key at false letter q greatest fields = fine _
integer_key at true letter q greatest fields = chain _ _ (keyed at letter _) (λ w. chain _ _ (integer at q greatest w) (λ n. fine _))

keys : (c : Class) (at : ℕ) (fields : List (List ℕ)) → InLines (keys_at c at fields)
unfolding keys_at
keys c at fields =
    chain _ _ (natural_key at _ 112 _ 1 GREATEST fields) (λ p.
    chain _ _ (natural_key at _ 114 _ 0 GREATEST p.1) (λ r.
    chain _ _ (integer_key at _ 100 _ GREATEST r.1) (λ d.
    chain _ _ (natural_key at _ 119 _ 1 GREATEST d.1) (λ w. fine _))))

pub job_line : (c : Class) (at : ℕ) (names fields : List (List ℕ)) → InLines (job_line_at c at names fields)
unfolding job_line_at
job_line c at names fields =
    given _ _ _ tt (chain _ _ (widen _ (named_plain at _)) (λ name. chain _ _ (keys c at _) (λ keys. given _ _ _ tt (fine _))))

pub times : (at least : ℕ) (needs : List Need) (fields : List (List ℕ)) → InLines (times_at at least needs fields)
unfolding times_at
times at least needs [] = fine needs
times at least needs (w ∷ ws) = chain _ _ (natural at _ least GREATEST w) (λ t. times at least (with_need needs (length needs) t) ws)

machine : (at machines : ℕ) (w : List ℕ) → InLines (machine_at at machines w)
machine at machines w = widen _ (ordinal_plain at what.Machines machines w)

timed_route : (at machines : ℕ) (needs : List Need) (fields : List (List ℕ)) → InLines (timed_route_at at machines needs fields)
unfolding timed_route_at
timed_route at machines needs [] = fine needs
timed_route at machines needs (w ∷ []) = bad _ tt
timed_route at machines needs (w ∷ v ∷ ws) = chain _ _ (machine at machines w) (λ q. chain _ _ (natural at _ 1 GREATEST v) (λ t. timed_route at machines (with_need needs q t) ws))

machine_route : (at machines time : ℕ) (needs : List Need) (fields : List (List ℕ)) → InLines (machine_route_at at machines time needs fields)
unfolding machine_route_at
machine_route at machines time needs [] = fine needs
machine_route at machines time needs (w ∷ ws) = chain _ _ (machine at machines w) (λ q. machine_route at machines time (with_need needs q time) ws)

pub operations : (timed : Bool) (at machines time : ℕ) (fields : List (List ℕ)) → InLines (operations_at timed at machines time fields)
operations true at machines time fields = timed_route at machines [] fields
operations false at machines time fields = machine_route at machines time [] fields

steps : (at : ℕ) (so_far : List Step) (fields : List (List ℕ)) → InLines (steps_at at so_far fields)
unfolding steps_at
steps at so_far [] = fine so_far
steps at so_far (w ∷ []) = bad _ tt
steps at so_far (w ∷ v ∷ ws) = chain _ _ (natural at _ 0 GREATEST w) (λ above. chain _ _ (natural at _ 0 GREATEST v) (λ add. steps at (with_step so_far above add) ws))

pub curve_fields : (at : ℕ) (fields : List (List ℕ)) → InLines (curve_fields_at at fields)
unfolding curve_fields_at
curve_fields at fields = chain _ _ (natural at _ 0 GREATEST _) (λ slope. chain _ _ (integer at _ GREATEST _) (λ base. chain _ _ (steps at [] _) (λ s. fine _)))

pub arc_line : (at : ℕ) (d : Draft) (fields : List (List ℕ)) → InLines (arc_line_at at d fields)
unfolding arc_line_at
arc_line at d fields = search (given, chain, known, fine) depth 9

spelled : {E : Type 0} (at : ℕ) (r : Result Class E) → InLines (spelled_class at r)
spelled at (Ok c) = fine c
spelled at (Err e) = bad _ tt

pub class_fields : (at : ℕ) (fields : List (List ℕ)) → InLines (class_in at fields)
class_fields at (w ∷ name ∷ []) = given _ _ _ tt (spelled at (reading_of name))
class_fields at _ = bad _ tt

pub speeds_fields : (at : ℕ) (so_far : List ℕ) (fields : List (List ℕ)) → InLines (speeds_in at so_far fields)
unfolding speeds_in
speeds_fields at so_far [] = fine so_far
speeds_fields at so_far (w ∷ ws) = chain _ _ (natural at _ 1 GREATEST_SPEED w) (λ speed. speeds_fields at _ ws)
