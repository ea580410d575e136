-- The operations of a job: what is read is what was written, and what was written is read again.
use Rattle.std.proofs.Common.{◌≡◌, ℕ, suc, ◌+◌, ◌<◌, ◌≤◌, true, false, ◌&&◌, ◌==◌, List, [], ◌∷◌, ◌++◌, length, map, get_or, Result, Ok, All, refl, sym, ap, ap₂, subst, ◌∙◌, codes, decimal, arith}
use Rattle.std.specs.Prelude.{⊤, Bool, if◌then◌else◌, slice_index_or, nat_le, EachIndex}
use Rattle.std.specs.List.{AllByRecursion, flat_map, range_with_len}
use Rattle.std.proofs.lemmas.Bool.{eq-eqb, le-leb}
use Rattle.std.proofs.lemmas.List.{append_assoc, append-nil, length_push, length-map, ext_get_or}
use Rattle.std.proofs.lemmas.List.Elements.{All-nil, All-cons, All-head, All-tail, All-map}
use Rattle.std.proofs.lemmas.List.FromFn.{length-map-range_with_len, get_or-map-range_with_len}
use Rattle.msp_class.specs.declared.environments.EnvKind.{EnvKind}
use Rattle.msp_class.specs.declared.environments.EnvKind.TheVariants.{Identical, Uniform, JobShop}
use Rattle.msp_class.specs.Env.{kind_of, most_operations}
use Rattle.msp_class.specs.declared.sizes.TheConstants.{MOST_MACHINES, MOST_OPERATIONS, GREATEST}
use Rattle.msp_class.specs.declared.class.Class.{Class}
use Rattle.msp_class.specs.declared.class.Env.{Env}
use Rattle.msp_class.specs.declared.class.Env.TheVariants.{J2Short}
use Rattle.msp_class.specs.declared.class.Times.{Times}
use Rattle.msp_instance.specs.declared.Need.{Need}
use Rattle.msp_instance.specs.Instance.{no_need}
use Rattle.msp_instance.specs.Conditions.{IsSingleNeed, IsNeedPerMachine, IsRoute, HasShape, HasTimes, least_time}
use Rattle.msp_grammar.specs.declared.lines.fault.What.TheVariants as what
use Rattle.msp_grammar.specs.declared.lines.fault.FileFault.{FileFault}
use Rattle.msp_grammar.specs.declared.lines.fault.FileFault.TheVariants.{Count, Limit}
use Rattle.msp_grammar.specs.Layout.{has_times, has_time_key, has_one_time, has_machine_times, has_route}
use Rattle.msp_grammar.specs.InstanceText.{line_text, where_wanted, times_fields, operation_fields, route_fields}
use Rattle.msp_grammar.specs.lines.Reading.{Place, worded_at, natural_at, machine_at}
use Rattle.msp_file.specs.instance.Reading.{with_need, times_at, times_line_at, timed_route_at, machine_route_at, operations_in, fields_in, operations_at, is_route_count}
use Rattle.msp_file.specs.instance.Reading.{route_line_at, unwritten_needs, needs_at}
use Rattle.msp_grammar.proofs.reading.LineLaws.{bind_ok, provided_ok, ok_is, Takes, Gets, IsField, worded_takes, worded_again, reads, bind_again, provided_again}
use Rattle.msp_grammar.proofs.reading.CostLaws.{plain_word}
use Rattle.msp_grammar.proofs.reading.FieldLaws.{wide_takes, wide_again, natural_field, ordinal_takes, ordinal_again}
use Rattle.msp_file.proofs.instances.KeyLaws.{limit}

-- What is said of one operation: its machine is one of so many, its time is in range, its time is this one.
abbrev IsOn : ℕ → Need → Type 0
IsOn machines n = n.machine < machines

abbrev IsWithin : ℕ → Need → Type 0
IsWithin least n = (least ≤ n.time) × (n.time ≤ GREATEST)

abbrev LastsFor : ℕ → Need → Type 0
LastsFor time n = n.time ≡ time

-- Where times are not written, every time is this one.
abbrev pub HaveTime : Bool → ℕ → List Need → Type 0
HaveTime true time needs = ⊤
HaveTime false time needs = All (λ n. n.time ≡ time) needs

abbrev need_of : ℕ → ℕ → Need
need_of machine time = record { machine = machine; time = time }

pub two_parts : {A : Type 0} {x y : A} {xs ys : List A} → x ≡ y → xs ≡ ys → x ∷ xs ≡ y ∷ ys
two_parts e f = cc

need_is : (n : Need) (machine time : ℕ) → n.machine ≡ machine → n.time ≡ time → need_of machine time ≡ n
need_is n machine time e f = sym (ap₂ need_of e f)

-- ---- times on the machines in order

pub times_takes : (at least : ℕ) (needs : List Need) (ws : List (List ℕ)) (after : List Need)
    → times_at at least needs ws ≡ Ok after → (more : List Need) × (after ≡ needs ++ more) × (ws ≡ map (λ n. decimal n.time) more)
unfolding times_at
times_takes at least needs [] after e = ([], sym (ok_is needs after e) ∙ sym (append-nil needs), refl)
times_takes at least needs (w ∷ ws) after e =
    let a = bind_ok (natural_at at what.Time least GREATEST w) _ after e in
    let next : Need = record { machine = length needs; time = a.0 } in
    let r = times_takes at least (needs ++ next ∷ []) ws after a.2 in
    (next ∷ r.0, r.1 ∙ append_assoc needs (next ∷ []) r.0, two_parts (wide_takes at what.Time least GREATEST w a.0 limit a.1).0 r.2)

-- The machines are numbered on from n.
abbrev AreNumberedFrom : ℕ → List Need → Type 0
AreNumberedFrom n needs = EachIndex needs (λ k. (slice_index_or needs k no_need).machine ≡ n + k)

pub times_again : (at least : ℕ) (needs more : List Need)
    → AreNumberedFrom (length needs) more → HasTimes least GREATEST more → times_at at least needs (map (λ n. decimal n.time) more) ≡ Ok (needs ++ more)
unfolding times_at
times_again at least needs [] numbered h = ap Ok (sym (append-nil needs))
times_again at least needs (n ∷ more) numbered h =
    let first = All-head (IsWithin least) n more h in
    let here : n.machine ≡ length needs = omega (arith, numbered 0 (omega arith)) in
    let is : with_need needs (length needs) n.time ≡ needs ++ n ∷ [] = ap (λ q. with_need needs q n.time) (sym here) in
    let next : AreNumberedFrom (length (needs ++ n ∷ [])) more = λ k l. omega (arith, numbered (suc k) (omega arith), length_push needs n) in
    bind_again _ _ _ _ (wide_again at what.Time least GREATEST n.time limit first.0 first.1) (
    ap (λ xs. times_at at least xs (map (λ n. decimal n.time) more)) is
    ∙ times_again at least (needs ++ n ∷ []) more next (All-tail (IsWithin least) n more h)
    ∙ ap Ok (append_assoc needs (n ∷ []) more))

pub times_line_takes : (least machines : ℕ) (p : Place) (x : List Need × Place) → times_line_at least machines p ≡ Ok x → Takes p (line_text (times_fields x.0)) x.1
unfolding times_line_at
times_line_takes least machines p x e =
    let a = bind_ok (worded_at (codes "times") p) _ x e in
    let g = provided_ok (length a.0.0 == machines) (Count p.at) _ x a.2 in
    let b = bind_ok (times_at p.at least [] a.0.0) _ x g.1 in
    let t = times_takes p.at least [] a.0.0 b.0 b.1 in
    let fields : codes "times" ∷ a.0.0 ≡ times_fields b.0 = ap (λ ws. codes "times" ∷ ws) (t.2 ∙ ap (λ ns. map (λ n. decimal n.time) ns) (sym t.1)) in
    subst (λ (y : List Need × Place). Takes p (line_text (times_fields y.0)) y.1)
    (ok_is (b.0, a.0.1) x b.2) (subst (λ fs. Takes p (line_text fs) a.0.1) fields (worded_takes (codes "times") p a.0 a.1))

pub decimals_fields : {A : Type 0} (f : A → ℕ) (xs : List A) → All (λ x. f x ≤ GREATEST) xs → AllByRecursion IsField (map (λ x. decimal (f x)) xs)
decimals_fields f [] h = tt
decimals_fields f (x ∷ xs) h = (natural_field (f x) (All-head (λ y. f y ≤ GREATEST) x xs h), decimals_fields f xs (All-tail (λ y. f y ≤ GREATEST) x xs h))

pub times_line_again : (least machines at : ℕ) (needs : List Need) (rest : List ℕ) → IsNeedPerMachine machines needs
    → HasTimes least GREATEST needs → Gets (times_line_at least machines (record { at = at; rest = line_text (times_fields needs) ++ rest })) needs rest
unfolding times_line_at
times_line_again least machines at needs rest each h =
    let fields : AllByRecursion IsField (times_fields needs) = (plain_word (codes "times") refl refl, decimals_fields (λ n. n.time) needs (λ q d l. (h q d l).1)) in
    let line = worded_again (codes "times") (map (λ n. decimal n.time) needs) at rest fields in
    let numbered : AreNumberedFrom 0 needs = λ q l. omega (arith, each.1 q l) in (
      line.0,
      bind_again _ _ _ _ line.1 (
          provided_again _ _ _ _ (eq-eqb _ _ (length-map needs (λ n. decimal n.time) ∙ each.0)) (
          bind_again _ _ _ _ (times_again at least [] needs numbered h) refl)),
    )

machine_takes : (at machines : ℕ) (w : List ℕ) (m : ℕ) → machines ≤ MOST_MACHINES → machine_at at machines w ≡ Ok m → w ≡ decimal (m + 1)
machine_takes at machines w m few e = (ordinal_takes at what.Machines machines w m (omega arith) e).0

machine_again : (at machines m : ℕ) → machines ≤ MOST_MACHINES → m < machines → machine_at at machines (decimal (m + 1)) ≡ Ok m
machine_again at machines m few h = ordinal_again at what.Machines machines m (omega arith) h

timed_takes : (at machines : ℕ) (needs : List Need) (ws : List (List ℕ)) (after : List Need) → machines ≤ MOST_MACHINES
    → timed_route_at at machines needs ws ≡ Ok after → (more : List Need) × (after ≡ needs ++ more) × (ws ≡ flat_map (operation_fields true) more)
unfolding timed_route_at
timed_takes at machines needs [] after few e = ([], sym (ok_is needs after e) ∙ sym (append-nil needs), refl)
timed_takes at machines needs (w ∷ []) after few e = absurd cc
timed_takes at machines needs (w ∷ v ∷ ws) after few e =
    let a = bind_ok (machine_at at machines w) _ after e in
    let b = bind_ok (natural_at at what.Time 1 GREATEST v) _ after a.2 in
    let next : Need = record { machine = a.0; time = b.0 } in
    let r = timed_takes at machines (needs ++ next ∷ []) ws after few b.2 in
    (next ∷ r.0, r.1 ∙ append_assoc needs (next ∷ []) r.0, two_parts (machine_takes at machines w a.0 few a.1) (two_parts (wide_takes at what.Time 1 GREATEST v b.0 limit b.1).0 r.2))

timed_again : (at machines : ℕ) (needs more : List Need) → machines ≤ MOST_MACHINES
    → All (IsOn machines) more → HasTimes 1 GREATEST more → timed_route_at at machines needs (flat_map (operation_fields true) more) ≡ Ok (needs ++ more)
unfolding timed_route_at
timed_again at machines needs [] few below h = ap Ok (sym (append-nil needs))
timed_again at machines needs (n ∷ more) few below h =
    let first = All-head (IsWithin 1) n more h in
    bind_again _ _ _ _ (machine_again at machines n.machine few (All-head (IsOn machines) n more below)) (
    bind_again _ _ _ _ (wide_again at what.Time 1 GREATEST n.time limit first.0 first.1) (
    timed_again at machines (needs ++ n ∷ []) more few (All-tail (IsOn machines) n more below) (All-tail (IsWithin 1) n more h)
    ∙ ap Ok (append_assoc needs (n ∷ []) more)))

same_takes : (at machines time : ℕ) (needs : List Need) (ws : List (List ℕ)) (after : List Need) → machines ≤ MOST_MACHINES → machine_route_at at machines time needs ws ≡ Ok after
    → (more : List Need) × (after ≡ needs ++ more) × (ws ≡ flat_map (operation_fields false) more) × All (LastsFor time) more
unfolding machine_route_at
same_takes at machines time needs [] after few e = ([], sym (ok_is needs after e) ∙ sym (append-nil needs), refl, All-nil (LastsFor time))
same_takes at machines time needs (w ∷ ws) after few e =
    let a = bind_ok (machine_at at machines w) _ after e in
    let next : Need = record { machine = a.0; time = time } in
    let r = same_takes at machines time (needs ++ next ∷ []) ws after few a.2 in
    (next ∷ r.0, r.1 ∙ append_assoc needs (next ∷ []) r.0, two_parts (machine_takes at machines w a.0 few a.1) r.2, All-cons (LastsFor time) next r.0 refl r.3)

same_again : (at machines time : ℕ) (needs more : List Need) → machines ≤ MOST_MACHINES → All (IsOn machines) more
    → All (LastsFor time) more → machine_route_at at machines time needs (flat_map (operation_fields false) more) ≡ Ok (needs ++ more)
unfolding machine_route_at
same_again at machines time needs [] few below h = ap Ok (sym (append-nil needs))
same_again at machines time needs (n ∷ more) few below h =
    let is : with_need needs n.machine time ≡ needs ++ n ∷ [] = ap (λ t. with_need needs n.machine t) (sym (All-head (LastsFor time) n more h)) in
    bind_again _ _ _ _ (machine_again at machines n.machine few (All-head (IsOn machines) n more below)) (
    ap (λ xs. machine_route_at at machines time xs (flat_map (operation_fields false) more)) is
    ∙ same_again at machines time (needs ++ n ∷ []) more few (All-tail (IsOn machines) n more below) (All-tail (LastsFor time) n more h)
    ∙ ap Ok (append_assoc needs (n ∷ []) more))

operations_takes : (timed : Bool) (at machines time : ℕ) (ws : List (List ℕ)) (after : List Need)
    → machines ≤ MOST_MACHINES → operations_at timed at machines time ws ≡ Ok after → (ws ≡ flat_map (operation_fields timed) after) × HaveTime timed time after
operations_takes true at machines time ws after few e = let r = timed_takes at machines [] ws after few e in (r.2 ∙ ap (flat_map (operation_fields true)) (sym r.1), tt)
operations_takes false at machines time ws after few e =
    let r = same_takes at machines time [] ws after few e in
    (r.2 ∙ ap (flat_map (operation_fields false)) (sym r.1), subst (All (LastsFor time)) (sym r.1) r.3)

-- The times that are written are in range.
abbrev FitTimes : Bool → ℕ → List Need → Type 0
FitTimes timed least needs = timed ≡ true → HasTimes least GREATEST needs

operations_again : (timed : Bool) (at machines time : ℕ) (needs : List Need) → machines ≤ MOST_MACHINES → All (IsOn machines) needs
    → FitTimes timed 1 needs → HaveTime timed time needs → operations_at timed at machines time (flat_map (operation_fields timed) needs) ≡ Ok needs
operations_again true at machines time needs few below h same = timed_again at machines [] needs few below (h refl)
operations_again false at machines time needs few below h same = same_again at machines time [] needs few below same

-- The fields of a route are counted as its operations.
length-operations : (timed : Bool) (needs : List Need) → length (flat_map (operation_fields timed) needs) ≡ fields_in timed (length needs)
length-operations true [] = refl
length-operations true (n ∷ needs) = let r = length-operations true needs in omega (arith, r)
length-operations false [] = refl
length-operations false (n ∷ needs) = ap suc (length-operations false needs)

operations_counted : (timed : Bool) (n : ℕ) → operations_in timed (fields_in timed n) ≡ n
operations_counted true n = omega arith
operations_counted false n = refl

few_operations : (e : Env) → most_operations e ≤ MOST_OPERATIONS
few_operations J2Short = omega arith
few_operations _ = omega arith

timed_fields : (machines : ℕ) (needs : List Need) → machines ≤ MOST_MACHINES → All (IsOn machines) needs → HasTimes 1 GREATEST needs → AllByRecursion IsField (flat_map (operation_fields true) needs)
timed_fields machines [] few below h = tt
timed_fields machines (n ∷ needs) few below h =
    let here : n.machine < machines = All-head (IsOn machines) n needs below in (
      natural_field (n.machine + 1) (omega arith),
      (natural_field n.time (All-head (IsWithin 1) n needs h).1, timed_fields machines needs few (All-tail (IsOn machines) n needs below) (All-tail (IsWithin 1) n needs h)),
    )

machine_fields : (machines : ℕ) (needs : List Need) → machines ≤ MOST_MACHINES → All (IsOn machines) needs → AllByRecursion IsField (flat_map (operation_fields false) needs)
machine_fields machines [] few below = tt
machine_fields machines (n ∷ needs) few below =
    let here : n.machine < machines = All-head (IsOn machines) n needs below in
    (natural_field (n.machine + 1) (omega arith), machine_fields machines needs few (All-tail (IsOn machines) n needs below))

operations_fields : (timed : Bool) (machines : ℕ) (needs : List Need)
    → machines ≤ MOST_MACHINES → All (IsOn machines) needs → FitTimes timed 1 needs → AllByRecursion IsField (flat_map (operation_fields timed) needs)
operations_fields true machines needs few below h = timed_fields machines needs few below (h refl)
operations_fields false machines needs few below h = machine_fields machines needs few below

route_line_takes : (timed : Bool) (most machines time : ℕ) (p : Place) (x : List Need × Place)
    → machines ≤ MOST_MACHINES → route_line_at timed most machines time p ≡ Ok x → Takes p (line_text (route_fields timed x.0)) x.1 × HaveTime timed time x.0
unfolding route_line_at
route_line_takes timed most machines time p x few e =
    let a = bind_ok (worded_at (codes "route") p) _ x e in
    let f = provided_ok (nat_le (operations_in timed (length a.0.0)) MOST_OPERATIONS) (Limit p.at what.Route) _ x a.2 in
    let g = provided_ok (is_route_count timed most (length a.0.0)) (Count p.at) _ x f.1 in
    let b = bind_ok (operations_at timed p.at machines time a.0.0) _ x g.1 in
    let t = operations_takes timed p.at machines time a.0.0 b.0 few b.1 in
    subst (λ (y : List Need × Place). Takes p (line_text (route_fields timed y.0)) y.1 × HaveTime timed time y.0)
    (ok_is (b.0, a.0.1) x b.2) (subst (λ ws. Takes p (line_text (codes "route" ∷ ws)) a.0.1) t.0 (worded_takes (codes "route") p a.0 a.1), t.1)

route_counted : (timed : Bool) (most n m : ℕ) → m ≡ fields_in timed n → 1 ≤ n → n ≤ most → is_route_count timed most m ≡ true
route_counted timed most n m e some few = along (operations_in timed m) (fields_in timed (operations_in timed m))
    (ap (operations_in timed) e ∙ operations_counted timed n) (ap (fields_in timed) (ap (operations_in timed) e ∙ operations_counted timed n))
  where
    along : (o f : ℕ) → o ≡ n → f ≡ fields_in timed n → (nat_le 1 o && nat_le o most && (m == f)) ≡ true
    along o f is same =
        let low : nat_le 1 o ≡ true = le-leb _ _ (omega arith) in
        let high : nat_le o most ≡ true = le-leb _ _ (omega arith) in
        let all : (m == f) ≡ true = eq-eqb _ _ (e ∙ sym same) in
        rw (low, high, all) refl

route_line_again : (timed : Bool) (most machines time at : ℕ) (needs : List Need) (rest : List ℕ)
    → machines ≤ MOST_MACHINES → most ≤ MOST_OPERATIONS → IsRoute most machines needs → FitTimes timed 1 needs → HaveTime timed time needs
    → Gets (route_line_at timed most machines time (record { at = at; rest = line_text (route_fields timed needs) ++ rest })) needs rest
unfolding route_line_at
route_line_again timed most machines time at needs rest few short_most route h same =
    let fields : AllByRecursion IsField (route_fields timed needs) = (plain_word (codes "route") refl refl, operations_fields timed machines needs few route.machines h) in
    let line = worded_again (codes "route") (flat_map (operation_fields timed) needs) at rest fields in
    let counted = length-operations timed needs in
    let short : operations_in timed (length (flat_map (operation_fields timed) needs)) ≤ MOST_OPERATIONS =
    omega (arith, ap (operations_in timed) counted ∙ operations_counted timed (length needs), route.few, short_most) in (
      line.0,
      bind_again _ _ _ _ line.1 (
          provided_again _ _ _ _ (le-leb _ _ short) (
          provided_again _ _ _ _ (route_counted timed most (length needs) _ counted route.some route.few) (
          bind_again _ _ _ _ (operations_again timed at machines time needs few route.machines h same) refl))),
    )

-- ---- all operations

-- The lines of the operations, where times are written and where they are not, on machines of this kind.
abbrev pub needs_text : Bool → EnvKind → List Need → List ℕ
needs_text timed k needs = where_wanted (timed && has_machine_times k) (line_text (times_fields needs)) ++ where_wanted (has_route k) (line_text (route_fields timed needs))

-- The reading of them.
abbrev needs_by : Bool → EnvKind → ℕ → ℕ → ℕ → ℕ → Place → Result (List Need × Place) FileFault
needs_by timed k least most machines time p =
    if timed && has_machine_times k
    then times_line_at least machines p
    else (if has_route k then route_line_at timed most machines time p else Ok (unwritten_needs k machines time, p))

-- What reading alone says of the operations.
pub record AreReadNeeds (timed : Bool) (k : EnvKind) (time : ℕ) (p : Place) (needs : List Need) (q : Place) : Type 0 where
  pub text : Takes p (needs_text timed k needs) q
  pub times : HaveTime timed time needs
  pub keyed : (timed && has_one_time k) ≡ true → (slice_index_or needs 0 no_need).time ≡ time

-- what no line writes
pub none_takes : {A : Type 0} (none : A) (p : Place) (x : A × Place) → reads (none, p) ≡ Ok x → Takes p [] x.1 × (x.0 ≡ none)
none_takes {A} none p x e = subst (λ (y : A × Place). Takes p [] y.1 × (y.0 ≡ none)) (ok_is (none, p) x e) (refl, refl)

pub none_again : {A : Type 0} (none x : A) (at : ℕ) (rest : List ℕ) → x ≡ none → Gets (reads (none, record { at = at; rest = rest })) x rest
none_again none x at rest e = (at, ap (λ c. reads (c, record { at = at; rest = rest })) (sym e))

-- what a line with a text reads, and what no line writes
by_text : (timed : Bool) (k : EnvKind) (time : ℕ) (p : Place) (x : List Need × Place) (text : List ℕ) → needs_text timed k x.0 ≡ text → Takes p text x.1 → HaveTime timed time x.0
    → ((timed && has_one_time k) ≡ true → (slice_index_or x.0 0 no_need).time ≡ time) → AreReadNeeds timed k time p x.0 x.1
by_text timed k time p x text e h same keyed = record { text = subst (λ w. Takes p w x.1) (sym e) h; times = same; keyed = keyed }

by_none : (timed : Bool) (k : EnvKind) (time : ℕ) (p : Place) (needs : List Need) (x : List Need × Place) → needs_text timed k needs ≡ [] → HaveTime timed time needs
    → ((timed && has_one_time k) ≡ true → (slice_index_or needs 0 no_need).time ≡ time) → reads (needs, p) ≡ Ok x → AreReadNeeds timed k time p x.0 x.1
by_none timed k time p needs x e same keyed h = subst (λ (y : List Need × Place). AreReadNeeds timed k time p y.0 y.1) (ok_is (needs, p) x h) (by_text timed k time p (needs, p) [] e refl same keyed)

by_route : (timed : Bool) (most machines time : ℕ) (p : Place) (x : List Need × Place) → machines ≤ MOST_MACHINES → needs_text timed JobShop x.0 ≡ line_text (route_fields timed x.0)
    → ((timed && false) ≡ true → ⊥) → route_line_at timed most machines time p ≡ Ok x → AreReadNeeds timed JobShop time p x.0 x.1
by_route timed most machines time p x few e many h =
    let r = route_line_takes timed most machines time p x few h in
    by_text timed JobShop time p x (line_text (route_fields timed x.0)) e r.0 r.1 (λ one. absurd (many one))

-- one operation on each machine, all with this time
abbrev same_on : ℕ → ℕ → Need
same_on time q = record { machine = q; time = time }

abbrev sames : ℕ → ℕ → List Need
sames time machines = map (same_on time) (range_with_len 0 machines)

sames_take : (time machines : ℕ) → All (LastsFor time) (sames time machines)
sames_take time machines = All-map (LastsFor time) (same_on time) (range_with_len 0 machines) (λ k d l. refl)

sames_are : (time machines : ℕ) (needs : List Need) → IsNeedPerMachine machines needs → All (LastsFor time) needs → sames time machines ≡ needs
sames_are time machines needs each last =
    let long = length-map-range_with_len (same_on time) 0 machines in
    ext_get_or no_need (sames time machines) needs (long ∙ sym each.0)
    (λ k l. get_or-map-range_with_len (same_on time) 0 machines k k no_need (omega (arith, long)) (omega arith) ∙ same k (omega (arith, long, each.0)))
  where
    same : (k : ℕ) → k < length needs → same_on time k ≡ get_or needs k no_need
    same k l = need_is (get_or needs k no_need) k time (each.1 k l) (last k no_need l)

-- a single operation with this time
single_takes : (time : ℕ) → All (LastsFor time) (with_need [] 0 time)
single_takes time = All-cons (LastsFor time) _ [] refl (All-nil (LastsFor time))

needs_by_takes : (timed : Bool) (k : EnvKind) (least most machines time : ℕ) (p : Place) (x : List Need × Place)
    → machines ≤ MOST_MACHINES → needs_by timed k least most machines time p ≡ Ok x → AreReadNeeds timed k time p x.0 x.1
needs_by_takes true Identical least most machines time p x few e = by_none true Identical time p (with_need [] 0 time) x refl tt (λ k. refl) e
needs_by_takes true Uniform least most machines time p x few e = by_none true Uniform time p (with_need [] 0 time) x refl tt (λ k. refl) e
needs_by_takes false Identical least most machines time p x few e = by_none false Identical time p (with_need [] 0 time) x refl (single_takes time) (λ k. refl) e
needs_by_takes false Uniform least most machines time p x few e = by_none false Uniform time p (with_need [] 0 time) x refl (single_takes time) (λ k. refl) e
needs_by_takes timed JobShop least most machines time p x few e = by_route timed most machines time p x few refl (λ k. absurd cc) e
needs_by_takes true k least most machines time p x few e =
    by_text true k time p x (line_text (times_fields x.0)) (append-nil _) (times_line_takes least machines p x e) tt (λ k. absurd cc)
needs_by_takes false k least most machines time p x few e = by_none false k time p (sames time machines) x refl (sames_take time machines) (λ k. absurd cc) e

pub needs_takes : (c : Class) (machines time : ℕ) (p : Place) (x : List Need × Place)
    → machines ≤ MOST_MACHINES → needs_at c machines time p ≡ Ok x → AreReadNeeds (has_times c.times) (kind_of c.env) time p x.0 x.1
unfolding needs_at
needs_takes c machines time p x few e = needs_by_takes (has_times c.times) (kind_of c.env) (least_time (kind_of c.env) c.times) (most_operations c.env) machines time p x few e

-- the one operation of a job, which no line writes
one_again : (time at : ℕ) (needs : List Need) (rest : List ℕ)
    → IsSingleNeed needs → time ≡ (slice_index_or needs 0 no_need).time → Gets (reads (with_need [] 0 time, record { at = at; rest = rest })) needs rest
one_again time at [] rest single e = absurd (omega (arith, single.0))
one_again time at (n ∷ []) rest single e =
    let here : n.machine ≡ 0 = single.1 0 n (omega arith) in
    let same : with_need [] 0 time ≡ n ∷ [] = ap (λ m. m ∷ []) (need_is n 0 time here (sym e)) in
    (at, ap (λ xs. reads (xs, record { at = at; rest = rest })) same)
one_again time at (n ∷ m ∷ more) rest single e = absurd (omega (arith, single.0))

-- the first of operations that all have this time
first_of_same : (time : ℕ) (needs : List Need) → IsSingleNeed needs → All (LastsFor time) needs → time ≡ (slice_index_or needs 0 no_need).time
first_of_same time needs single last = sym (last 0 no_need (omega (arith, single.0)))

-- a place of which the text is known otherwise
moved : {A : Type 0} (read : Place → Result (A × Place) FileFault) (at : ℕ) (x : A) (a b rest : List ℕ)
    → a ≡ b → Gets (read (record { at = at; rest = b ++ rest })) x rest → Gets (read (record { at = at; rest = a ++ rest })) x rest
moved read at x a b rest e h = rw e h

needs_by_again : (timed : Bool) (k : EnvKind) (e : Env) (t : Times) (machines time at : ℕ) (needs : List Need) (rest : List ℕ)
    → machines ≤ MOST_MACHINES → HasShape k e machines needs → FitTimes timed (least_time k t) needs → HaveTime timed time needs
    → ((timed && has_one_time k) ≡ true → time ≡ (slice_index_or needs 0 no_need).time)
    → Gets (needs_by timed k (least_time k t) (most_operations e) machines time (record { at = at; rest = needs_text timed k needs ++ rest })) needs rest
needs_by_again true Identical e t machines time at needs rest few shape fit same first = one_again time at needs rest shape (first refl)
needs_by_again true Uniform e t machines time at needs rest few shape fit same first = one_again time at needs rest shape (first refl)
needs_by_again false Identical e t machines time at needs rest few shape fit same first = one_again time at needs rest shape (first_of_same time needs shape same)
needs_by_again false Uniform e t machines time at needs rest few shape fit same first = one_again time at needs rest shape (first_of_same time needs shape same)
needs_by_again timed JobShop e t machines time at needs rest few shape fit same first = route_line_again timed (most_operations e) machines time at needs rest few (few_operations e) shape fit same
needs_by_again true k e t machines time at needs rest few shape fit same first =
    moved (times_line_at _ machines) at needs _ _ rest (append-nil _) (times_line_again _ machines at needs rest shape (fit refl))
needs_by_again false k e t machines time at needs rest few shape fit same first =
    none_again (sames time machines) needs at rest (sym (sames_are time machines needs shape same))

pub needs_again : (c : Class) (machines time at : ℕ) (needs : List Need) (rest : List ℕ) → machines ≤ MOST_MACHINES → HasShape (kind_of c.env) c.env machines needs
    → (has_times c.times ≡ true → HasTimes (least_time (kind_of c.env) c.times) GREATEST needs) → HaveTime (has_times c.times) time needs
    → (has_time_key c ≡ true → time ≡ (slice_index_or needs 0 no_need).time)
    → Gets (needs_at c machines time (record { at = at; rest = needs_text (has_times c.times) (kind_of c.env) needs ++ rest })) needs rest
unfolding needs_at
needs_again c machines time at needs rest few shape fit same first = needs_by_again (has_times c.times) (kind_of c.env) c.env c.times machines time at needs rest few shape fit same first
