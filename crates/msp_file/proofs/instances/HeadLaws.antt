-- The lines of the head: what is read is the head of an instance, and the head of an instance is read as its parts.
use Rattle.std.proofs.Common.{◌≡◌, ℕ, ◌≤◌, Bool, true, ◌==◌, nat_lt, List, [], ◌∷◌, ◌++◌, length, map, Option, Some, None, MatchOption, Result, Ok, Err, All, Contains}
use Rattle.std.proofs.Common.{bytes_eq, is_none, refl, sym, ap, subst, ◌∙◌, append_assoc, append-nil, arith, codes, decimal, if◌then◌else◌}
use Rattle.std.specs.Prelude.{⊤, false}
use Rattle.std.specs.List.{AllByRecursion, list_all, join_with_byte}
use Rattle.std.proofs.lemmas.Bool.{eqb-true, eq-eqb, and_from}
use Rattle.std.proofs.lemmas.List.{length-map}
use Rattle.std.proofs.lemmas.List.Elements.{All-contains, All-nil, All-cons, All-head, All-tail}
use Rattle.std.proofs.lemmas.List.Folds.{list_all-append}
use Rattle.std.proofs.lemmas.List.Sums.{AllPass-from_list_all}
use Rattle.msp_class.specs.declared.environments.EnvKind.{EnvKind}
use Rattle.msp_class.specs.declared.environments.EnvKind.TheVariants.{Uniform}
use Rattle.msp_class.specs.declared.class.Class.{Class}
use Rattle.msp_class.specs.declared.class.Env.{Env}
use Rattle.msp_class.specs.declared.class.Times.{Times}
use Rattle.msp_class.specs.declared.class.Env.TheVariants as env
use Rattle.msp_class.specs.Env.{fixed_machines, kind_of}
use Rattle.msp_name.specs.declared.words.Item.{Item}
use Rattle.msp_name.specs.Spellings.{env_texts, item_texts, crit_texts}
use Rattle.msp_name.specs.Items.{plain_env}
use Rattle.msp_name.specs.Names.{NameOf, bar, comma}
use Rattle.msp_name.specs.Reading.{reading_of}
use Rattle.msp_name.proofs.NameLemmas.{NameOf-from_reading, reading_of-NameOf}
use Rattle.msp_instance.specs.declared.Instance.{Instance}
use Rattle.msp_instance.specs.Conditions.{HasMachines, HasSpeeds}
use Rattle.msp_class.specs.declared.sizes.TheConstants.{MOST_MACHINES, GREATEST_SPEED, GREATEST_EQUAL_TIME}
use Rattle.msp_grammar.specs.declared.lines.fault.FileFault.{FileFault}
use Rattle.msp_grammar.specs.declared.lines.fault.FileFault.TheVariants.{Head, Count}
use Rattle.msp_grammar.specs.declared.lines.fault.What.TheVariants as what
use Rattle.msp_grammar.specs.ScheduleText.{line_feed}
use Rattle.msp_grammar.specs.Layout.{has_speeds, has_time_line}
use Rattle.msp_grammar.specs.InstanceText.{where_wanted, line_text, class_text, machines_text, speeds_text, time_text}
use Rattle.msp_grammar.specs.lines.Reading.{◌>>=◌, provided, Place, line_at, fields_of, natural_at, worded_at}
use Rattle.msp_file.specs.instance.Reading.{version_at, spelled_class, class_in, class_at, machines_line_at, machines_at, speeds_in, speeds_line_at, speeds_at, time_line_at, time_at}
use Rattle.msp_text.proofs.NameLists.{same_bytes}
use Rattle.msp_grammar.proofs.reading.LineLaws.{bind_ok, provided_ok, ok_is, Takes, Gets, IsField, line_takes, line_again, fields_join, fields_again, fields_line_again, worded_takes, worded_again}
use Rattle.msp_file.proofs.instances.KeyLaws.{IsKeyed}
use Rattle.msp_file.proofs.instances.NeedLaws.{decimals_fields, none_takes, none_again}
use Rattle.msp_grammar.proofs.reading.CostLaws.{plain_word}
use Rattle.msp_grammar.proofs.reading.FieldLaws.{lacks_others, wide_takes, wide_again, number_line_takes, number_line_again}

-- ---- the version

pub version_takes : (p q : Place) → version_at p ≡ Ok q → Takes p (line_text (codes "msp" ∷ codes "1" ∷ [])) q
unfolding version_at
version_takes p q e =
    let l = bind_ok (line_at p) (λ l. provided (bytes_eq l.0 (codes "msp 1")) (Head p.at) (Ok l.1)) q e in
    let t = provided_ok (bytes_eq l.0.0 (codes "msp 1")) (Head p.at) (Ok l.0.1) q l.2 in
    let is : l.0.0 ≡ codes "msp 1" = same_bytes l.0.0 (codes "msp 1") t.0 in
    subst (Takes p (line_text (codes "msp" ∷ codes "1" ∷ []))) (ok_is l.0.1 q t.1) (subst (λ line. Takes p (line ++ line_feed) l.0.1) is (line_takes p l.0 l.1))

pub version_again : (at : ℕ) (rest : List ℕ) → (next : ℕ) × (version_at (record { at = at; rest = line_text (codes "msp" ∷ codes "1" ∷ []) ++ rest }) ≡ Ok (record { at = next; rest = rest }))
unfolding version_at
version_again at rest = let line = line_again at (codes "msp 1") rest refl in (line.0, rw (line.1) refl)

-- ---- the class

-- a byte of a field: none that is at most a space
abbrev is_dark : ℕ → Bool
is_dark b = nat_lt 32 b

abbrev IsDark : List ℕ → Type 0
IsDark w = list_all is_dark w ≡ true

table_dark : {A : Type 0} (table : List (List ℕ × A)) (w : List ℕ) (x : A) → list_all (λ row. list_all is_dark row.0) table ≡ true → Contains table (w, x) → IsDark w
table_dark table w x h m = All-contains (λ row. IsDark row.0) table (w, x) (AllPass-from_list_all (λ row. list_all is_dark row.0) table h) m

append_dark : (v w : List ℕ) → IsDark v → IsDark w → IsDark (v ++ w)
append_dark v w h k = list_all-append is_dark v w ∙ and_from (list_all is_dark v) (list_all is_dark w) h k

items_dark : (items : List (List ℕ × Item)) → All (Contains item_texts) items → IsDark (join_with_byte comma (map (λ w. w.0) items))
unfolding item_texts
items_dark [] h = refl
items_dark (v ∷ []) h = table_dark item_texts v.0 v.1 refl (All-head (Contains item_texts) v [] h)
items_dark (v ∷ w ∷ ws) h =
    append_dark v.0 (comma ∷ join_with_byte comma (map (λ u. u.0) (w ∷ ws)))
    (table_dark item_texts v.0 v.1 refl (All-head (Contains item_texts) v (w ∷ ws) h)) (items_dark (w ∷ ws) (All-tail (Contains item_texts) v (w ∷ ws) h))

name_dark : (spelling : List ℕ) (c : Class) → NameOf spelling c → IsDark spelling
unfolding env_texts crit_texts
name_dark spelling c h =
    let items : List ℕ = join_with_byte comma (map (λ w. w.0) h.items) in
    let crit : IsDark (bar ∷ h.crit) = table_dark crit_texts h.crit c.crit refl h.crit_spelled in
    let back : IsDark (bar ∷ (items ++ (bar ∷ h.crit))) = append_dark items (bar ∷ h.crit) (items_dark h.items h.items_spelled) crit in
    subst IsDark (sym h.written) (append_dark h.env (bar ∷ (items ++ (bar ∷ h.crit))) (table_dark env_texts h.env (plain_env c.env) refl h.env_spelled) back)

-- a name of a class can stand in a line
pub class_field : (spelling : List ℕ) (c : Class) → NameOf spelling c → IsField spelling
class_field spelling c h =
    let dark = name_dark spelling c h in
    record { no_space = lacks_others is_dark 32 spelling refl dark; no_line_feed = lacks_others is_dark 10 spelling refl dark }

spelled_takes : {E : Type 0} (at : ℕ) (r : Result Class E) (c : Class) → spelled_class at r ≡ Ok c → r ≡ Ok c
spelled_takes at (Ok d) c e = cc
spelled_takes at (Err d) c e = absurd cc

class_fields_take : (at : ℕ) (fields : List (List ℕ)) (c : Class) → class_in at fields ≡ Ok c → (spelling : List ℕ) × (fields ≡ codes "class" ∷ spelling ∷ []) × NameOf spelling c
class_fields_take at (w ∷ name ∷ []) c e =
    let t = provided_ok (bytes_eq w (codes "class")) (Head at) (spelled_class at (reading_of name)) c e in
    (name, ap (λ v. v ∷ name ∷ []) (same_bytes w (codes "class") t.0), NameOf-from_reading name c (spelled_takes at (reading_of name) c t.1))
class_fields_take at _ c e = absurd cc

pub class_takes : (p : Place) (x : Class × Place) → class_at p ≡ Ok x → (spelling : List ℕ) × NameOf spelling x.0 × Takes p (class_text spelling) x.1
unfolding class_at class_text
class_takes p x e =
    let l = bind_ok (line_at p) (λ l. class_in p.at (fields_of l.0) >>= λ c. Ok (c, l.1)) x e in
    let c = bind_ok (class_in p.at (fields_of l.0.0)) (λ c. Ok (c, l.0.1)) x l.2 in
    let f = class_fields_take p.at (fields_of l.0.0) c.0 c.1 in
    let line : l.0.0 ≡ join_with_byte 32 (codes "class" ∷ f.0 ∷ []) = sym (fields_join l.0.0) ∙ ap (join_with_byte 32) f.1 in
    let text : Takes p (line_text (codes "class" ∷ f.0 ∷ [])) l.0.1 = subst (λ w. Takes p (w ++ line_feed) l.0.1) line (line_takes p l.0 l.1) in
    subst (λ y. (spelling : List ℕ) × NameOf spelling y.0 × Takes p (line_text (codes "class" ∷ spelling ∷ [])) y.1) (ok_is (c.0, l.0.1) x c.2) (f.0, f.2, text)

pub class_again : (at : ℕ) (spelling : List ℕ) (c : Class) (rest : List ℕ) → NameOf spelling c → Gets (class_at (record { at = at; rest = class_text spelling ++ rest })) c rest
unfolding class_at class_text
class_again at spelling c rest h =
    let fields : AllByRecursion IsField (codes "class" ∷ spelling ∷ []) = (record { no_space = refl; no_line_feed = refl }, (class_field spelling c h, tt)) in
    let line = fields_line_again at (codes "class") (spelling ∷ []) rest fields in
    let after : Place = record { at = line.0; rest = rest } in
    (line.0, rw (line.1) (ap (λ ws. class_in at ws >>= λ d. Ok (d, after)) (fields_again (codes "class") (spelling ∷ []) fields) ∙ rw (reading_of-NameOf spelling c h) refl))

-- ---- the number of machines

-- The number of machines is one that the environment allows: that of an instance is, by HasMachines.
abbrev pub AreMachines : Env → ℕ → Type 0
AreMachines e m = (1 ≤ m) × (m ≤ MOST_MACHINES) × MatchOption (fixed_machines e) ⊤ (λ n. m ≡ n)

-- a fixed number of machines is within the limits of texts
fixed_in : (x : Env) → MatchOption (fixed_machines x) ⊤ (λ n. (1 ≤ n) × (n ≤ MOST_MACHINES))
fixed_in env.P = tt
fixed_in env.Q = tt
fixed_in env.R = tt
fixed_in env.O = tt
fixed_in env.F = tt
fixed_in env.JShort = tt
fixed_in env.J = tt
fixed_in _ = (omega arith, omega arith)

-- the machines by what the environment fixes
abbrev machines_from : Option ℕ → Place → Result (ℕ × Place) FileFault
machines_from o p = elim o [ Some machines ↦ Ok (machines, p) | None ↦ machines_line_at p ]

abbrev machines_line : Option ℕ → ℕ → List ℕ
machines_line o machines = where_wanted (is_none o) (line_text (codes "machines" ∷ decimal machines ∷ []))

pub machines_takes : (e : Env) (p : Place) (x : ℕ × Place) → machines_at e p ≡ Ok x → Takes p (machines_text e x.0) x.1 × AreMachines e x.0
unfolding machines_at machines_text
machines_takes e p x h = by (fixed_machines e) (fixed_in e) h
  where
    by : (o : Option ℕ) → MatchOption o ⊤ (λ n. (1 ≤ n) × (n ≤ MOST_MACHINES)) → machines_from o p ≡ Ok x
        → Takes p (machines_line o x.0) x.1 × ((1 ≤ x.0) × (x.0 ≤ MOST_MACHINES) × MatchOption o ⊤ (λ n. x.0 ≡ n))
    by (Some m) within h = subst (λ (y : ℕ × Place). (p.rest ≡ y.1.rest) × ((1 ≤ y.0) × (y.0 ≤ MOST_MACHINES) × (y.0 ≡ m))) (ok_is (m, p) x h) (refl, (within.0, within.1, refl))
    by None within h = let t = number_line_takes (codes "machines") what.Machines MOST_MACHINES p x (omega arith) h in (t.0, (t.1.0, t.1.1, tt))

pub machines_again : (i : Instance) (at : ℕ) (rest : List ℕ) → HasMachines i → Gets (machines_at i.class.env (record { at = at; rest = machines_text i.class.env i.machines ++ rest })) i.machines rest
unfolding machines_at machines_text
machines_again i at rest h = by (fixed_machines i.class.env) h.2
  where
    by : (o : Option ℕ) → MatchOption o ⊤ (λ n. i.machines ≡ n) → Gets (machines_from o (record { at = at; rest = machines_line o i.machines ++ rest })) i.machines rest
    by (Some m) is = (at, ap (λ n. Ok (n, record { at = at; rest = rest })) (sym is))
    by None is = number_line_again _ _ _ at i.machines rest (plain_word (codes "machines") refl refl) (omega arith) h.0 h.1

-- ---- the speeds

abbrev IsSpeed : ℕ → Type 0
IsSpeed s = (1 ≤ s) × (s ≤ GREATEST_SPEED)

-- the speeds of the fields, after those so far
speeds_fields_take : (at : ℕ) (so_far : List ℕ) (fields : List (List ℕ)) (all : List ℕ) → speeds_in at so_far fields ≡ Ok all
    → (more : List ℕ) × (all ≡ so_far ++ more) × (fields ≡ map decimal more) × All IsSpeed more
unfolding speeds_in
speeds_fields_take at so_far [] all e = ([], sym (ok_is so_far all e) ∙ sym (append-nil so_far), refl, All-nil IsSpeed)
speeds_fields_take at so_far (w ∷ ws) all e =
    let s = bind_ok (natural_at at what.Speed 1 GREATEST_SPEED w) (λ speed. speeds_in at (so_far ++ speed ∷ []) ws) all e in
    let n = wide_takes at what.Speed 1 GREATEST_SPEED w s.0 (omega arith) s.1 in
    let next = speeds_fields_take at (so_far ++ s.0 ∷ []) ws all s.2 in
    (s.0 ∷ next.0, next.1 ∙ append_assoc so_far (s.0 ∷ []) next.0, ap (λ v. v ∷ ws) n.0 ∙ ap (λ vs. decimal s.0 ∷ vs) next.2, All-cons IsSpeed s.0 next.0 (n.1, n.2) next.3)

speeds_fields_again : (at : ℕ) (so_far speeds : List ℕ) → All IsSpeed speeds → speeds_in at so_far (map decimal speeds) ≡ Ok (so_far ++ speeds)
unfolding speeds_in
speeds_fields_again at so_far [] h = ap Ok (sym (append-nil so_far))
speeds_fields_again at so_far (s ∷ ss) h =
    let range = All-head IsSpeed s ss h in
    rw (wide_again at what.Speed 1 GREATEST_SPEED s (omega arith) range.0 range.1) (speeds_fields_again at (so_far ++ s ∷ []) ss (All-tail IsSpeed s ss h) ∙ ap Ok (append_assoc so_far (s ∷ []) ss))

speeds_line_takes : (machines : ℕ) (p : Place) (x : List ℕ × Place) → speeds_line_at machines p ≡ Ok x
    → Takes p (line_text (codes "speeds" ∷ map decimal x.0)) x.1 × ((length x.0 ≡ machines) × All IsSpeed x.0)
unfolding speeds_line_at
speeds_line_takes machines p x h =
    let l = bind_ok (worded_at (codes "speeds") p) _ x h in
    let fields = l.0.0 in
    let t = provided_ok (length fields == machines) (Count p.at) _ x l.2 in
    let s = bind_ok (speeds_in p.at [] fields) _ x t.1 in
    let speeds = s.0 in
    let f = speeds_fields_take p.at [] fields speeds s.1 in
    let is : fields ≡ map decimal speeds = f.2 ∙ ap (map decimal) (sym f.1) in
    let range : All IsSpeed speeds = subst (All IsSpeed) (sym f.1) f.3 in
    let count : length speeds ≡ machines = sym (length-map speeds decimal) ∙ ap length (sym is) ∙ eqb-true (length fields) machines t.0 in
    let text : Takes p (line_text (codes "speeds" ∷ map decimal speeds)) l.0.1 = subst (λ ws. Takes p (line_text (codes "speeds" ∷ ws)) l.0.1) is (worded_takes (codes "speeds") p l.0 l.1) in
    subst (λ y. Takes p (line_text (codes "speeds" ∷ map decimal y.0)) y.1 × ((length y.0 ≡ machines) × All IsSpeed y.0)) (ok_is (speeds, l.0.1) x s.2) (text, (count, range))

pub speeds_takes : (e : Env) (machines : ℕ) (p : Place) (x : List ℕ × Place) → speeds_at e machines p ≡ Ok x → Takes p (speeds_text e x.0) x.1 × HasSpeeds (kind_of e) machines x.0
unfolding speeds_at speeds_text
speeds_takes e machines p x h = by (kind_of e) h
  where
    by : (k : EnvKind) → (if has_speeds k then speeds_line_at machines p else Ok ([], p)) ≡ Ok x
        → Takes p (where_wanted (has_speeds k) (line_text (codes "speeds" ∷ map decimal x.0))) x.1 × HasSpeeds k machines x.0
    by Uniform h = speeds_line_takes machines p x h
    by _ h = none_takes [] p x h

speeds_line_again : (machines at : ℕ) (speeds rest : List ℕ) → length speeds ≡ machines → All IsSpeed speeds
    → Gets (speeds_line_at machines (record { at = at; rest = line_text (codes "speeds" ∷ map decimal speeds) ++ rest })) speeds rest
unfolding speeds_line_at
speeds_line_again machines at speeds rest count range =
    let fields : AllByRecursion IsField (codes "speeds" ∷ map decimal speeds) =
    (record { no_space = refl; no_line_feed = refl }, decimals_fields (λ s. s) speeds (λ k d l. omega (arith, (range k d l).1))) in
    let line = worded_again (codes "speeds") (map decimal speeds) at rest fields in
    let many : (length (map decimal speeds) == machines) ≡ true = eq-eqb (length (map decimal speeds)) machines (length-map speeds decimal ∙ count) in
    (line.0, rw (line.1, many, speeds_fields_again at [] speeds range) refl)

pub speeds_again : (e : Env) (machines at : ℕ) (speeds rest : List ℕ)
    → HasSpeeds (kind_of e) machines speeds → Gets (speeds_at e machines (record { at = at; rest = speeds_text e speeds ++ rest })) speeds rest
unfolding speeds_at speeds_text
speeds_again e machines at speeds rest h = by (kind_of e) h
  where
    by : (kind : EnvKind) → HasSpeeds kind machines speeds
        → Gets {A = List ℕ} (if has_speeds kind then speeds_line_at machines (record { at = at; rest = where_wanted (has_speeds kind) (line_text (codes "speeds" ∷ map decimal speeds)) ++ rest }) else
        Ok ([], record { at = at; rest = where_wanted (has_speeds kind) (line_text (codes "speeds" ∷ map decimal speeds)) ++ rest })) speeds rest
    by Uniform h = speeds_line_again machines at speeds rest h.0 h.1
    by _ h = none_again [] speeds at rest h

-- ---- the time that all operations share

-- The time that is read: the one of the line, and 1 in classes without it.
abbrev pub IsShared : Times → ℕ → Type 0
IsShared t shared = IsKeyed (has_time_line t) 1 GREATEST_EQUAL_TIME shared

abbrev time_by : Bool → Place → Result (ℕ × Place) FileFault
time_by there p = if there then time_line_at p else Ok (1, p)

abbrev time_line : Bool → ℕ → List ℕ
time_line there time = where_wanted there (line_text (codes "time" ∷ decimal time ∷ []))

time_by_takes : (there : Bool) (p : Place) (x : ℕ × Place) → time_by there p ≡ Ok x → Takes p (time_line there x.0) x.1 × IsKeyed there 1 GREATEST_EQUAL_TIME x.0
time_by_takes true p x h = number_line_takes (codes "time") what.Time GREATEST_EQUAL_TIME p x (omega arith) h
time_by_takes false p x h = none_takes 1 p x h

pub time_takes : (t : Times) (p : Place) (x : ℕ × Place) → time_at t p ≡ Ok x → Takes p (time_text t x.0) x.1 × IsShared t x.0
unfolding time_at time_text
time_takes t p x h = time_by_takes (has_time_line t) p x h

time_by_again : (there : Bool) (at time shared : ℕ) (rest : List ℕ) → IsKeyed there 1 GREATEST_EQUAL_TIME shared
    → (there ≡ true → time ≡ shared) → Gets (time_by there (record { at = at; rest = time_line there time ++ rest })) shared rest
time_by_again true at time shared rest h e =
    rw (e refl) (number_line_again _ _ _ at shared rest (plain_word (codes "time") refl refl) (omega arith) h.0 h.1)
time_by_again false at time shared rest h e = none_again 1 shared at rest h

pub time_again : (t : Times) (at time shared : ℕ) (rest : List ℕ)
    → IsShared t shared → (has_time_line t ≡ true → time ≡ shared) → Gets (time_at t (record { at = at; rest = time_text t time ++ rest })) shared rest
unfolding time_at time_text
time_again t at time shared rest h e = time_by_again (has_time_line t) at time shared rest h e
