-- The jobs of an open shop as the code takes and lays them.
use Rattle.std.proofs.Common.{◌≡◌, ℕ, ◌+◌, ◌<◌, ◌≤◌, List, [], ◌∷◌, ◌++◌, length, get_or, map, All, sym, ap, ◌∙◌, ap₂, subst, subst₂, zero-add, Option, Some, arith}
use Rattle.std.proofs.Common.{length-append, inl, inr, AllPairs, pos, refl}
use Rattle.std.specs.Prelude.{IsPermutation}
use Rattle.std.specs.List.{range_with_len}
use Rattle.std.specs.List.Sorted.{IsNonDecreasingBy}
use Rattle.std.specs.Option.{option_to_list}
use Rattle.std.proofs.lemmas.List.{get_or_append_left}
use Rattle.std.proofs.Math.Seq.{get_or-append_seam}
use Rattle.std.proofs.lemmas.List.Sorted.{IsPermutation-trans, IsPermutation-append_comm, IsPermutation-map, IsPermutation-append_right, All-permutation}
use Rattle.msp_instance.specs.declared.Instance.{Instance}
use Rattle.msp_shops.specs.declared.pass.JobTimes.{JobTimes}
use Rattle.msp_shops.specs.Groups.{route_times}
use Rattle.msp_shops.specs.Times.{times_at}
use Rattle.msp_shops.specs.Order.{GoesBefore}
use Rattle.msp_shops.specs.OpenOrder.{lesser, AreGrouped, all_times, turned, IsLaid, IsLaidOut, on_first, on_second, IsOpenPlan}
use Rattle.std.proofs.lemmas.List.Elements.{All-map}
use Rattle.std.proofs.lemmas.List.FromFn.{map-range_with_len_more}
use Rattle.msp_instance.specs.Conditions.{Inner}
use Rattle.msp_pieces.specs.declared.Piece.{Piece}
use Rattle.msp_pieces.specs.declared.Schedule.{Schedule}
use Rattle.msp_pieces.specs.declared.Frac.{Frac}
use Rattle.msp_pieces.specs.Fraction.{IsOver}
use Rattle.msp_pieces.specs.Cost.{cost_of}
use Rattle.msp_shops.specs.declared.pass.Stage.{Stage}
use Rattle.msp_shops.specs.Open.{open_class, IsOpenCost}
use Rattle.msp_shops.proofs.Shops.{IsBestPlan, over_one}
use Rattle.msp_shops.proofs.OpenFacts.{IsOpenInstance, IsOpenInstance-from_class, job_numbers, open_end, IsOpenEnd-open_end}
use Rattle.msp_shops.proofs.OpenPlan.{AreStages, IsReady, is_ready, IsBestPlan-from_laid}

-- ---- Johnson's order
pub AreGrouped-from_order : (js : List JobTimes) → AllPairs (GoesBefore (λ t. t.first) (λ t. t.second)) js → AreGrouped js
AreGrouped-from_order js h a b d l m = by (get_or js a d) (get_or js b d) (h a b d l m)
  where
    by : (s t : JobTimes) → GoesBefore (λ t. t.first) (λ t. t.second) s t → t.first ≤ t.second → s.first ≤ s.second
    by s t (inl o) e = o.0
    by s t (inr o) e = absurd (omega (arith, o.1, e))

-- ---- the last one by the lesser time
popped : (sorted rest : List JobTimes) (o : Option JobTimes) (x : JobTimes) → sorted ≡ rest ++ option_to_list o → o ≡ Some x → sorted ≡ rest ++ x ∷ []
popped sorted rest o x e f = e ∙ ap (λ p. rest ++ option_to_list p) f

pub all_popped : (old sorted rest : List JobTimes) (o : Option JobTimes) (x : JobTimes) → IsPermutation old sorted → sorted ≡ rest ++ option_to_list o → o ≡ Some x → IsPermutation old (x ∷ rest)
all_popped old sorted rest o x p e f = IsPermutation-trans old (rest ++ x ∷ []) (x ∷ rest) (subst (IsPermutation old) (popped sorted rest o x e f) p) (IsPermutation-append_comm rest (x ∷ []))

pub greatest_popped : (sorted rest : List JobTimes) (o : Option JobTimes) (x : JobTimes)
    → IsNonDecreasingBy lesser sorted → sorted ≡ rest ++ option_to_list o → o ≡ Some x → All (λ t. lesser t ≤ lesser x) rest
greatest_popped sorted rest o x h e f k d l =
    let is = popped sorted rest o x e f in
    let whole : length sorted ≡ length rest + 1 = ap length is ∙ length-append rest (x ∷ []) in
    subst₂ (λ y z. lesser y ≤ lesser z)
    (ap (λ xs. get_or xs k d) is ∙ get_or_append_left rest (x ∷ []) d k l)
    (ap (λ xs. get_or xs (length rest) d) is ∙ get_or-append_seam rest x [] d)
    (h k (length rest) d (omega (arith, l)) (omega (arith, whole)))

-- ---- one job more
pub times_next : (i : Instance) (old new : List JobTimes) (k : ℕ) (x : JobTimes)
    → new ≡ old ++ x ∷ [] → x ≡ route_times i k → old ≡ map (route_times i) (range_with_len 0 k) → new ≡ map (route_times i) (range_with_len 0 (k + 1))
times_next i old new k x e one so_far =
    e ∙ ap₂ (λ l y. l ++ y ∷ []) so_far one ∙ sym (map-range_with_len_more (route_times i) 0 k k (zero-add k))

-- ---- as the code has it
first_stages : AreStages on_first on_second
first_stages = record { one = refl; two = refl; one_small = omega arith; two_small = omega arith; other = λ e. absurd (omega (arith, e)) }

second_stages : AreStages on_second on_first
second_stages = record { one = refl; two = refl; one_small = omega arith; two_small = omega arith; other = λ e. absurd (omega (arith, e)) }

turned_times : (i : Instance) (xs : List ℕ) → map turned (map (times_at i 0 1) xs) ≡ map (times_at i 1 0) xs
turned_times i [] = refl
turned_times i (x ∷ xs) = ap (λ l. times_at i 1 0 x ∷ l) (turned_times i xs)

best_laid : (i : Instance) → IsOpenInstance i → (first second : Stage) → AreStages first second → (ps : List Piece) → IsLaidOut i first second ps → IsBestPlan i (open_end i) (over_one ps)
best_laid i h first second g ps w =
    let (to, laid, p, e) = w.laid in
    subst (λ l. IsBestPlan i (open_end i) (over_one l)) (sym e)
    (IsBestPlan-from_laid i h first second g w.special w.others w.all (open_end i) (IsOpenEnd-open_end i h.is.shop.some) w.is_special w.grouped to laid p)

pub IsBestPlan-from_open : (i : Instance) → i.class ≡ open_class → Inner i → (ps : List Piece) → IsOpenPlan i ps → IsBestPlan i (open_end i) (over_one ps)
IsBestPlan-from_open i class inner ps (inl w) = best_laid i (IsOpenInstance-from_class i class inner) on_first on_second first_stages ps w
IsBestPlan-from_open i class inner ps (inr w) = best_laid i (IsOpenInstance-from_class i class inner) on_second on_first second_stages ps w

pub IsOpenCost-read : (i : Instance) → i.class ≡ open_class → Inner i → (cost : Frac) (s : Schedule) → IsBestPlan i (open_end i) s → IsOver cost (cost_of i s) (pos 1) → IsOpenCost i cost
IsOpenCost-read i class inner cost s w over = (open_end i, IsOpenEnd-open_end i (IsOpenInstance-from_class i class inner).is.shop.some, subst (λ x. IsOver cost x (pos 1)) w.cost over)

sorted_rest : (times rest sorted : List JobTimes) (special : JobTimes) → IsPermutation times (special ∷ rest) → IsPermutation rest sorted → IsPermutation times (special ∷ sorted)
sorted_rest times rest sorted special p q = IsPermutation-trans times (special ∷ rest) (special ∷ sorted) p (IsPermutation-append_right (special ∷ []) rest sorted q)

pub ready : (i : Instance) → i.class ≡ open_class → Inner i → (times rest sorted others : List JobTimes) (special : JobTimes)
    → times ≡ all_times i 0 1 → IsPermutation times (special ∷ rest) → IsPermutation rest sorted → others ≡ sorted → IsReady i on_first on_second special others
ready i class inner times rest sorted others special is p q same =
    is_ready i (IsOpenInstance-from_class i class inner) on_first on_second first_stages special others
    (subst₂ (λ l m. IsPermutation l (special ∷ m)) is (sym same) (sorted_rest times rest sorted special p q))

pub ready_turned : (i : Instance) → i.class ≡ open_class → Inner i → (times rest exchanged sorted others : List JobTimes) (special other : JobTimes) → times ≡ all_times i 0 1
    → IsPermutation times (special ∷ rest) → exchanged ≡ map turned rest → IsPermutation exchanged sorted → others ≡ sorted → other ≡ turned special → IsReady i on_second on_first other others
ready_turned i class inner times rest exchanged sorted others special other is p turns q same e =
    is_ready i (IsOpenInstance-from_class i class inner) on_second on_first second_stages other others
    (subst₂ (λ x m. IsPermutation (all_times i 1 0) (x ∷ m)) (sym e) (sym same)
    (subst (λ l. IsPermutation l (turned special ∷ sorted)) (ap (map turned) is ∙ turned_times i (job_numbers i))
    (sorted_rest (map turned times) (map turned rest) sorted (turned special) (IsPermutation-map turned times (special ∷ rest) p) (subst (λ l. IsPermutation l sorted) turns q))))

pub laid_first : (i : Instance) (special : JobTimes) (rest sorted others : List JobTimes) (ps : List Piece) → IsReady i on_first on_second special others
    → special.first ≤ special.second → All (λ t. lesser t ≤ lesser special) rest → IsPermutation rest sorted → AreGrouped sorted → others ≡ sorted →
    IsLaid on_first on_second special others ps → IsOpenPlan i ps
laid_first i special rest sorted others ps r small greatest q grouped same laid = inl (record {
  special = special;
  others = others;
  all = r.all;
  is_special = record { lesser_first = small; greatest = subst (All (λ t. lesser t ≤ lesser special)) (sym same) (All-permutation (λ t. lesser t ≤ lesser special) rest sorted q greatest) };
  grouped = subst AreGrouped (sym same) grouped;
  laid = laid;
})

pub laid_second : (i : Instance) (special other : JobTimes) (rest exchanged sorted others : List JobTimes) (ps : List Piece)
    → IsReady i on_second on_first other others → other ≡ turned special → special.second < special.first → All (λ t. lesser t ≤ lesser special) rest →
    exchanged ≡ map turned rest → IsPermutation exchanged sorted → AreGrouped sorted → others ≡ sorted → IsLaid on_second on_first other others ps → IsOpenPlan i ps
laid_second i special other rest exchanged sorted others ps r e small greatest turns q grouped same laid = inr (record {
  special = other;
  others = others;
  all = r.all;
  is_special = record {
    lesser_first = subst (λ t. t.first ≤ t.second) (sym e) (omega (arith, small));
    greatest = subst₂ (λ x l. All (λ t. lesser t ≤ lesser x) l) (sym e) (sym same)
        (All-permutation (λ t. lesser t ≤ lesser (turned special)) exchanged sorted q
        (subst (All (λ t. lesser t ≤ lesser (turned special))) (sym turns) (All-map (λ t. lesser t ≤ lesser (turned special)) turned rest (λ k d l. omega (arith, greatest k d l)))));
  };
  grouped = subst AreGrouped (sym same) grouped;
  laid = laid;
})
