-- The first line of a job: the name and the keys that are read are those that were written, and what was written is read again.
use Rattle.std.proofs.Common.{◌≡◌, ℕ, ◌<◌, ◌^◌, ◌≤◌, Bool, true, false, ◌&&◌, ◌==◌, List, [], ◌∷◌, ◌++◌, Ok, ℤ, pos, refl, sym, ap, subst, ◌∙◌, decimal, suc, ◌+◌, not, length, Contains, bytes_eq, arith}
use Rattle.std.specs.Fmt.{signed_decimal}
use Rattle.std.proofs.lemmas.Bool.{and_parts, eqb-true, eq-eqb, not-true, not_from_false, false_from_ne_true}
use Rattle.msp_instance.specs.Conditions.{LiesWithin}
use Rattle.msp_class.specs.declared.sizes.TheConstants.{GREATEST}
use Rattle.msp_grammar.specs.declared.lines.fault.FileFault.TheVariants.{Key, Count, Again}
use Rattle.msp_grammar.specs.declared.lines.fault.What.{What}
use Rattle.msp_grammar.specs.InstanceText.{where_wanted, time_key, release_key, due_key, weight_key, key_fields}
use Rattle.msp_grammar.specs.lines.Reading.{◌>>=◌, first_of, others_of, natural_at, integer_at, job_name_at}
use Rattle.msp_file.specs.instance.Reading.{keyed_at, natural_key_at, integer_key_at, keys_at, count_of_keys, job_line_at}
use Rattle.msp_grammar.proofs.reading.LineLaws.{bind_ok, provided_ok, ok_is, IsField, bind_again, provided_again}
use Rattle.std.specs.Prelude.{if◌then◌else◌, slice_index_or}
use Rattle.std.specs.List.{AllByRecursion, list_any}
use Rattle.std.proofs.lemmas.List.{append_assoc, append-nil, nil_from_length}
use Rattle.msp_class.specs.Crit.{uses_due, uses_weight}
use Rattle.msp_class.specs.Rank.{flag_number}
use Rattle.msp_class.specs.declared.class.Class.{Class}
use Rattle.msp_instance.specs.declared.Need.{Need}
use Rattle.msp_instance.specs.declared.Job.{Job}
use Rattle.msp_instance.specs.Instance.{no_need}
use Rattle.msp_grammar.specs.declared.lines.fault.What.TheVariants as what
use Rattle.msp_file.specs.declared.instance.job.Keys.{Keys}
use Rattle.msp_text.specs.JobName.{IsJobName}
use Rattle.msp_grammar.specs.Layout.{has_time_key}
use Rattle.msp_text.proofs.NameLists.{is_among, not_among}
use Rattle.msp_grammar.proofs.reading.FieldLaws.{natural_field, integer_field, name_takes, name_again, wide_takes, wide_again, signed_takes, signed_again}

-- ---- numbers behind keys

-- A number is from the least to the greatest one, or the least one where its key is not written.
abbrev pub IsKeyed : Bool → ℕ → ℕ → ℕ → Type 0
IsKeyed true least greatest n = (least ≤ n) × (n ≤ greatest)
IsKeyed false least greatest n = n ≡ least

abbrev pub IsKeyedInteger : Bool → ℕ → ℤ → Type 0
IsKeyedInteger true greatest x = LiesWithin greatest x
IsKeyedInteger false greatest x = x ≡ pos 0

-- the field of a key, which comes first
keyed_takes : (at letter : ℕ) (fields : List (List ℕ)) (w : List ℕ) → keyed_at at letter (first_of fields) ≡ Ok w → fields ≡ (letter ∷ 61 ∷ w) ∷ others_of fields
keyed_takes at letter ((k ∷ s ∷ v) ∷ fs) w e =
    let t = provided_ok ((k == letter) && (s == 61)) (Key at) (Ok v) w e in
    let both = and_parts (k == letter) (s == 61) t.0 in
    let a : k ≡ letter = eqb-true k letter both.0 in
    let b : s ≡ 61 = eqb-true s 61 both.1 in
    let c : v ≡ w = ok_is v w t.1 in
    cc
keyed_takes at letter _ w e = absurd cc

keyed_again : (at letter : ℕ) (w : List ℕ) → keyed_at at letter (letter ∷ 61 ∷ w) ≡ Ok w
keyed_again at letter w = rw (eq-eqb letter letter refl) refl

pub natural_key_takes : (at : ℕ) (there : Bool) (letter : ℕ) (quantity : What) (least greatest : ℕ) (fields : List (List ℕ)) (x : ℕ × List (List ℕ)) → greatest < 10 ^ 64
    → natural_key_at at there letter quantity least greatest fields ≡ Ok x → (fields ≡ where_wanted there ((letter ∷ 61 ∷ decimal x.0) ∷ []) ++ x.1) × IsKeyed there least greatest x.0
unfolding natural_key_at
natural_key_takes at true letter quantity least greatest fields x h e =
    let a = bind_ok (keyed_at at letter (first_of fields)) (λ w. natural_at at quantity least greatest w >>= λ n. Ok (n, others_of fields)) x e in
    let b = bind_ok (natural_at at quantity least greatest a.0) (λ n. Ok (n, others_of fields)) x a.2 in
    let t = wide_takes at quantity least greatest a.0 b.0 h b.1 in
    let line : fields ≡ (letter ∷ 61 ∷ decimal b.0) ∷ others_of fields = keyed_takes at letter fields a.0 a.1 ∙ ap (λ w. (letter ∷ 61 ∷ w) ∷ others_of fields) t.0 in
    subst (λ y. (fields ≡ (letter ∷ 61 ∷ decimal y.0) ∷ y.1) × ((least ≤ y.0) × (y.0 ≤ greatest))) (ok_is (b.0, others_of fields) x b.2) (line, (t.1, t.2))
natural_key_takes at false letter quantity least greatest fields x h e = subst (λ y. (fields ≡ y.1) × (y.0 ≡ least)) (ok_is (least, fields) x e) (refl, refl)

pub natural_key_again : (at : ℕ) (there : Bool) (letter : ℕ) (quantity : What) (least greatest n : ℕ) (more : List (List ℕ)) → greatest < 10 ^ 64
    → IsKeyed there least greatest n → natural_key_at at there letter quantity least greatest (where_wanted there ((letter ∷ 61 ∷ decimal n) ∷ []) ++ more) ≡ Ok (n, more)
unfolding natural_key_at
natural_key_again at true letter quantity least greatest n more h k = rw (keyed_again at letter (decimal n), wide_again at quantity least greatest n h k.0 k.1) refl
natural_key_again at false letter quantity least greatest n more h k = ap (λ m. Ok (m, more)) (sym k)

pub integer_key_takes : (at : ℕ) (there : Bool) (letter : ℕ) (quantity : What) (greatest : ℕ) (fields : List (List ℕ)) (x : ℤ × List (List ℕ)) → greatest < 10 ^ 64
    → integer_key_at at there letter quantity greatest fields ≡ Ok x → (fields ≡ where_wanted there ((letter ∷ 61 ∷ signed_decimal x.0) ∷ []) ++ x.1) × IsKeyedInteger there greatest x.0
unfolding integer_key_at
integer_key_takes at true letter quantity greatest fields x h e =
    let a = bind_ok (keyed_at at letter (first_of fields)) (λ w. integer_at at quantity greatest w >>= λ y. Ok (y, others_of fields)) x e in
    let b = bind_ok (integer_at at quantity greatest a.0) (λ y. Ok (y, others_of fields)) x a.2 in
    let t = signed_takes at quantity greatest a.0 b.0 h b.1 in
    let line : fields ≡ (letter ∷ 61 ∷ signed_decimal b.0) ∷ others_of fields = keyed_takes at letter fields a.0 a.1 ∙ ap (λ w. (letter ∷ 61 ∷ w) ∷ others_of fields) t.0 in
    subst (λ y. (fields ≡ (letter ∷ 61 ∷ signed_decimal y.0) ∷ y.1) × LiesWithin greatest y.0) (ok_is (b.0, others_of fields) x b.2) (line, t.1)
integer_key_takes at false letter quantity greatest fields x h e = subst (λ y. (fields ≡ y.1) × (y.0 ≡ pos 0)) (ok_is (pos 0, fields) x e) (refl, refl)

pub integer_key_again : (at : ℕ) (there : Bool) (letter : ℕ) (quantity : What) (greatest : ℕ) (x : ℤ) (more : List (List ℕ)) → greatest < 10 ^ 64
    → IsKeyedInteger there greatest x → integer_key_at at there letter quantity greatest (where_wanted there ((letter ∷ 61 ∷ signed_decimal x) ∷ []) ++ more) ≡ Ok (x, more)
unfolding integer_key_at
integer_key_again at true letter quantity greatest x more h k = rw (keyed_again at letter (signed_decimal x), signed_again at quantity greatest x h k) refl
integer_key_again at false letter quantity greatest x more h k = ap (λ y. Ok (y, more)) (sym k)

-- ---- keys

-- The values of the keys are in range, and where the class has no key they are the usual ones.
pub record AreKeys (c : Class) (k : Keys) : Type 0 where
  pub time : IsKeyed (has_time_key c) 1 GREATEST k.time
  pub release : IsKeyed c.heads 0 GREATEST k.release
  pub due : IsKeyedInteger (uses_due c.crit) GREATEST k.due
  pub weight : IsKeyed (uses_weight c.crit) 1 GREATEST k.weight

-- The fields of the keys, with the fields after them.
abbrev pub key_words : Class → Keys → List (List ℕ) → List (List ℕ)
key_words c k more =
    where_wanted (has_time_key c) ((112 ∷ 61 ∷ decimal k.time) ∷ [])
    ++ (where_wanted c.heads ((114 ∷ 61 ∷ decimal k.release) ∷ [])
    ++ (where_wanted (uses_due c.crit) ((100 ∷ 61 ∷ signed_decimal k.due) ∷ [])
    ++ (where_wanted (uses_weight c.crit) ((119 ∷ 61 ∷ decimal k.weight) ∷ [])
    ++ more)))

-- the bound that most readers of numbers are given
pub limit : GREATEST < 10 ^ 64
limit = omega arith

pub keys_takes : (c : Class) (at : ℕ) (fields : List (List ℕ)) (k : Keys) → keys_at c at fields ≡ Ok k → (more : List (List ℕ)) × (fields ≡ key_words c k more) × AreKeys c k
unfolding keys_at
keys_takes c at fields k e =
    let a = bind_ok (natural_key_at at (has_time_key c) 112 what.Time 1 GREATEST fields) _ k e in
    let b = bind_ok (natural_key_at at c.heads 114 what.Release 0 GREATEST a.0.1) _ k a.2 in
    let d = bind_ok (integer_key_at at (uses_due c.crit) 100 what.Due GREATEST b.0.1) _ k b.2 in
    let w = bind_ok (natural_key_at at (uses_weight c.crit) 119 what.Weight 1 GREATEST d.0.1) _ k d.2 in
    let t0 = natural_key_takes at (has_time_key c) 112 what.Time 1 GREATEST fields a.0 limit a.1 in
    let t1 = natural_key_takes at c.heads 114 what.Release 0 GREATEST a.0.1 b.0 limit b.1 in
    let t2 = integer_key_takes at (uses_due c.crit) 100 what.Due GREATEST b.0.1 d.0 limit d.1 in
    let t3 = natural_key_takes at (uses_weight c.crit) 119 what.Weight 1 GREATEST d.0.1 w.0 limit w.1 in
    let made : Keys = record { time = a.0.0; release = b.0.0; due = d.0.0; weight = w.0.0 } in
    let front = λ (there : Bool) (letter : ℕ) (text : List ℕ) (x : List (List ℕ)). where_wanted there ((letter ∷ 61 ∷ text) ∷ []) ++ x in
    let text : fields ≡ key_words c made w.0.1 =
    t0.0
    ∙ ap (front (has_time_key c) 112 (decimal a.0.0)) (t1.0
    ∙ ap (front c.heads 114 (decimal b.0.0)) (t2.0
    ∙ ap (front (uses_due c.crit) 100 (signed_decimal d.0.0)) t3.0)) in
    let both = subst (λ (m : Keys). (fields ≡ key_words c m w.0.1) × AreKeys c m) (ok_is made k w.2) (text, record { time = t0.1; release = t1.1; due = t2.1; weight = t3.1 }) in
    (w.0.1, both.0, both.1)

pub keys_again : (c : Class) (at : ℕ) (k : Keys) (more : List (List ℕ)) → AreKeys c k → keys_at c at (key_words c k more) ≡ Ok k
unfolding keys_at
keys_again c at k more h =
    bind_again _ _ _ _ (natural_key_again at (has_time_key c) 112 what.Time 1 GREATEST k.time _ limit h.time) (
    bind_again _ _ _ _ (natural_key_again at c.heads 114 what.Release 0 GREATEST k.release _ limit h.release) (
    bind_again _ _ _ _ (integer_key_again at (uses_due c.crit) 100 what.Due GREATEST k.due _ limit h.due) (
    bind_again _ _ _ _ (natural_key_again at (uses_weight c.crit) 119 what.Weight 1 GREATEST k.weight more limit h.weight) refl)))

-- ---- how many fields

length_wanted : (there : Bool) (w : List ℕ) (more : List (List ℕ)) → length (where_wanted there (w ∷ []) ++ more) ≡ flag_number there + length more
length_wanted true w more = omega arith
length_wanted false w more = omega arith

pub length_keys : (c : Class) (k : Keys) (more : List (List ℕ)) → length (key_words c k more) ≡ count_of_keys c + length more
length_keys c k more =
    let a = length_wanted (has_time_key c) (112 ∷ 61 ∷ decimal k.time) _ in
    let b = length_wanted c.heads (114 ∷ 61 ∷ decimal k.release) _ in
    let d = length_wanted (uses_due c.crit) (100 ∷ 61 ∷ signed_decimal k.due) _ in
    let w = length_wanted (uses_weight c.crit) (119 ∷ 61 ∷ decimal k.weight) more in
    along _ _ _ _ _ _ _ _ _ a b d w
  where
    along : (x y z v m p q r s : ℕ) → x ≡ p + y → y ≡ q + z → z ≡ r + v → v ≡ s + m → x ≡ p + q + r + s + m
    along x y z v m p q r s a b d w = omega arith

-- ---- the line

pub job_line_takes : (c : Class) (at : ℕ) (names fields : List (List ℕ)) (x : List ℕ × Keys)
    → job_line_at c at names fields ≡ Ok x → (fields ≡ x.0 ∷ key_words c x.1 []) × IsJobName x.0 × (¬ Contains names x.0) × AreKeys c x.1
unfolding job_line_at
job_line_takes c at names [] x e = let g = provided_ok (length {A = List ℕ} [] == 1 + count_of_keys c) (Count at) _ x e in absurd (none (count_of_keys c) g.0)
  where
    none : (n : ℕ) → (0 == 1 + n) ≡ true → ⊥
    none n h = let same = eqb-true 0 (1 + n) h in omega arith
job_line_takes c at names (w ∷ ws) x e =
    let g = provided_ok (length (w ∷ ws) == 1 + count_of_keys c) (Count at) _ x e in
    let a = bind_ok (job_name_at at w) _ x g.1 in
    let b = bind_ok (keys_at c at ws) _ x a.2 in
    let last = provided_ok (not (list_any (bytes_eq a.0) names)) (Again at) _ x b.2 in
    let named = name_takes at w a.0 a.1 in
    let keyed = keys_takes c at ws b.0 b.1 in
    let nothing : keyed.0 ≡ [] = nil_from_length keyed.0 (counted (length ws) (count_of_keys c) (length keyed.0) g.0 (ap length keyed.1 ∙ length_keys c b.0 keyed.0)) in
    let text : w ∷ ws ≡ a.0 ∷ key_words c b.0 [] = cc (named.0, keyed.1 ∙ ap (key_words c b.0) nothing) in
    subst (λ (y : List ℕ × Keys). (w ∷ ws ≡ y.0 ∷ key_words c y.1 []) × IsJobName y.0 × (¬ Contains names y.0) × AreKeys c y.1)
    (ok_is (a.0, b.0) x last.1) (text, named.1, not_among names a.0 (not-true (list_any (bytes_eq a.0) names) last.0), keyed.2)
  where
    counted : (n k m : ℕ) → (suc n == 1 + k) ≡ true → n ≡ k + m → m ≡ 0
    counted n k m h e = let same = eqb-true (suc n) (1 + k) h in omega arith

pub job_line_again : (c : Class) (at : ℕ) (names : List (List ℕ)) (name : List ℕ) (k : Keys)
    → IsJobName name → ¬ Contains names name → AreKeys c k → job_line_at c at names (name ∷ key_words c k []) ≡ Ok (name, k)
unfolding job_line_at
job_line_again c at names name k spelled fresh h =
    provided_again _ _ _ _ (eq-eqb _ _ (counted _ _ (length_keys c k []))) (
    bind_again _ _ _ _ (name_again at name spelled) (
    bind_again _ _ _ _ (keys_again c at k [] h) (
    provided_again _ _ _ _ (not_from_false _ (false_from_ne_true _ (λ e. fresh (is_among names name e)))) refl)))
  where
    counted : (n k : ℕ) → n ≡ k + 0 → suc n ≡ 1 + k
    counted n k e = omega arith

-- the fields of the keys can stand in a line
key_field : (there : Bool) (letter : ℕ) (text : List ℕ) (more : List (List ℕ)) → (letter == 32) ≡ false → (letter == 10) ≡ false → (there ≡ true → IsField text) → AllByRecursion IsField more
    → AllByRecursion IsField (where_wanted there ((letter ∷ 61 ∷ text) ∷ []) ++ more)
key_field true letter text more s l f h = (record { no_space = rw s (f refl).no_space; no_line_feed = rw l (f refl).no_line_feed }, h)
key_field false letter text more s l f h = h

natural_keyed : (there : Bool) (least n : ℕ) → IsKeyed there least GREATEST n → there ≡ true → IsField (decimal n)
natural_keyed true least n h t = natural_field n h.1
natural_keyed false least n h t = absurd cc

integer_keyed : (there : Bool) (x : ℤ) → IsKeyedInteger there GREATEST x → there ≡ true → IsField (signed_decimal x)
integer_keyed true x h t = integer_field x h
integer_keyed false x h t = absurd cc

pub key_words_fields : (c : Class) (k : Keys) → AreKeys c k → AllByRecursion IsField (key_words c k [])
key_words_fields c k h =
    key_field _ 112 _ _ refl refl (natural_keyed _ 1 k.time h.time) (
    key_field _ 114 _ _ refl refl (natural_keyed _ 0 k.release h.release) (
    key_field _ 100 _ _ refl refl (integer_keyed _ k.due h.due) (
    key_field _ 119 _ [] refl refl (natural_keyed _ 1 k.weight h.weight) tt)))

-- ---- the keys of a job

-- The time of a job that has one time, and 1 elsewhere.
abbrev pub time_of : Bool → List Need → ℕ
time_of keyed needs = if keyed then (slice_index_or needs 0 no_need).time else 1

abbrev pub keys_of : Class → Job → Keys
keys_of c j = record { time = time_of (has_time_key c) j.needs; release = j.release; due = j.due; weight = j.weight }

pub key_fields_are : (c : Class) (j : Job) → key_fields c j ≡ key_words c (keys_of c j) []
unfolding time_key release_key due_key weight_key
key_fields_are c j = by (has_time_key c)
  where
    by : (t : Bool) → where_wanted t ((112 ∷ 61 ∷ decimal (slice_index_or j.needs 0 no_need).time) ∷ []) ++ release_key c j ++ due_key c j ++ weight_key c j
        ≡ where_wanted t ((112 ∷ 61 ∷ decimal (time_of t j.needs)) ∷ []) ++ (release_key c j ++ (due_key c j ++ (weight_key c j ++ [])))
    by true = simp (append_assoc, append-nil)
    by false = simp (append_assoc, append-nil)
