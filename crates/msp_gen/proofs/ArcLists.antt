-- The drawn arcs are those of their order, and go from lesser to greater numbers.
use Rattle.std.proofs.Common.{◌≡◌, ◌≢◌, ℕ, suc, ◌+◌, ◌-◌, ◌/◌, ◌<◌, ◌≤◌, min, eqb, Bool, true, false, cond, ◌==◌, List, [], ◌∷◌, ◌++◌, length, get_or, map, All}
use Rattle.std.proofs.Common.{AllPairs, if◌then◌else◌, refl, sym, ap, subst, ◌∙◌, length-append, append-nil, eq-eqb, arith}
use Rattle.std.specs.Prelude.{count_by}
use Rattle.std.specs.List.{list_any}
use Rattle.std.proofs.lemmas.List.{get_or_default, length-map}
use Rattle.std.proofs.Math.ListN.{get_or-map}
use Rattle.std.proofs.lemmas.List.Elements.{All-nil, All-push}
use Rattle.std.proofs.lemmas.List.Quantifiers.{all_pairs_push}
use Rattle.std.proofs.lemmas.List.Folds.{list_any_at}
use Rattle.msp_class.specs.declared.sizes.TheConstants.{MOST_JOBS}
use Rattle.msp_class.specs.declared.class.Order.{Order}
use Rattle.msp_class.specs.declared.class.Order.TheVariants.{Free, Chains, Intree, Outtree, Prec}
use Rattle.msp_class.proofs.Sums.{count_by-distinct, sum_by-map}
use Rattle.msp_instance.specs.declared.Arc.{Arc}
use Rattle.msp_instance.specs.Conditions.{HasArcs, HasDegree}
use Rattle.msp_gen.specs.Draws.{Drawn, draw, draw_turns, without_draw}
use Rattle.msp_gen.specs.Generated.{draw_mostly, draw_before, draw_behind, draw_arc_into, draw_arc_from, draw_arcs, arc_turns, is_same, added}
use Rattle.msp_gen.proofs.Turns.{turns_keep}
use Rattle.msp_gen.proofs.Numbers.{draw_below}

-- ---- arcs whose key rises
pub record IsRising (key : Arc → ℕ) (bound : ℕ) (arcs : List Arc) : Type 0 where
  pub below : All (λ a. key a < bound) arcs
  pub rising : AllPairs (λ a b. key a < key b) arcs

module _ (key : Arc → ℕ) where
  rising_none : IsRising key 0 []
  rising_none = record { below = All-nil (λ a. key a < 0); rising = λ i j d l m. absurd (omega (arith, m)) }

  rising_more : (n m : ℕ) (arcs : List Arc) → n ≤ m → IsRising key n arcs → IsRising key m arcs
  rising_more n m arcs l h = record { below = λ k d i. let b = h.below k d i in omega (arith, b, l); rising = h.rising }

  rising_behind : (n m : ℕ) (arcs : List Arc) (a : Arc) → n ≤ key a → key a < m → IsRising key n arcs → IsRising key m (arcs ++ a ∷ [])
  rising_behind n m arcs a l k h = record {
    below = All-push (λ b. key b < m) arcs a (λ i d j. let b = h.below i d j in omega (arith, b, l, k)) k;
    rising = all_pairs_push (λ b c. key b < key c) arcs a h.rising (λ i d j. let b = h.below i d j in omega (arith, b, l));
  }

  rising_apart : (n : ℕ) (arcs : List Arc) → IsRising key n arcs → AllPairs (λ a b. a ≢ b) arcs
  rising_apart n arcs h i j d l m e = let r = h.rising i j d l m in omega (arith, r, ap key e)

  keys_apart : (n : ℕ) (arcs : List Arc) → IsRising key n arcs → AllPairs (λ x y. x ≢ y) (map key arcs)
  keys_apart n arcs h i j d l m e =
      let inside : j < length arcs = omega (arith, m, length-map arcs key) in
      let r = h.rising i j no_arc l inside in
      let same : key (get_or arcs i no_arc) ≡ key (get_or arcs j no_arc) = sym (read i (omega (arith, l, m))) ∙ e ∙ read j m in
      omega (arith, r, same)
    where
      no_arc : Arc
      no_arc = record { before = 0; after = 0 }

      read : (i : ℕ) → i < length (map key arcs) → get_or (map key arcs) i d ≡ key (get_or arcs i no_arc)
      read i l = get_or_default (map key arcs) i d (key no_arc) l ∙ get_or-map key arcs i no_arc

  rising_once : (n : ℕ) (arcs : List Arc) → IsRising key n arcs → (j : ℕ) → count_by (λ a. key a == j) arcs ≤ 1
  rising_once n arcs h j =
      let once = count_by-distinct (map key arcs) j (keys_apart n arcs h) in
      omega (arith, once, sum_by-map (λ x. cond (eqb x j) 1 0) key arcs)

-- ---- what each order keeps
abbrev pub KeepsOrder : Order → ℕ → List Arc → Type 0
KeepsOrder Free k arcs = arcs ≡ []
KeepsOrder Chains k arcs = IsRising (λ a. a.before) k arcs × IsRising (λ a. a.after) (k + 1) arcs
KeepsOrder Intree k arcs = IsRising (λ a. a.before) k arcs
KeepsOrder Outtree k arcs = IsRising (λ a. a.after) (k + 1) arcs
KeepsOrder Prec k arcs = AllPairs (λ a b. a ≢ b) arcs

pub record KeepsArcs (order : Order) (n k : ℕ) (arcs : List Arc) : Type 0 where
  pub few : length arcs ≤ k
  pub forward : All (λ a. (a.before < a.after) × (a.after < n)) arcs
  pub ordered : KeepsOrder order k arcs

none : (order : Order) (n : ℕ) → KeepsArcs order n 0 []
none order n = record { few = omega arith; forward = All-nil (λ a. (a.before < a.after) × (a.after < n)); ordered = by order }
  where
    by : (order : Order) → KeepsOrder order 0 []
    by Free = refl
    by Chains = (rising_none (λ a. a.before), rising_more (λ a. a.after) 0 1 [] (omega arith) (rising_none (λ a. a.after)))
    by Intree = rising_none (λ a. a.before)
    by Outtree = rising_more (λ a. a.after) 0 1 [] (omega arith) (rising_none (λ a. a.after))
    by Prec = λ i j d l m. absurd (omega (arith, m))

more : (order : Order) (n k : ℕ) (arcs : List Arc) → KeepsArcs order n k arcs → KeepsArcs order n (suc k) (arcs ++ [])
more order n k arcs h = subst (KeepsArcs order n (suc k)) (sym (append-nil arcs)) (record { few = omega (arith, h.few); forward = h.forward; ordered = by order h.ordered })
  where
    by : (order : Order) → KeepsOrder order k arcs → KeepsOrder order (suc k) arcs
    by Chains o = (rising_more (λ a. a.before) k (suc k) arcs (omega arith) o.0, rising_more (λ a. a.after) (k + 1) (suc k + 1) arcs (omega arith) o.1)
    by Intree o = rising_more (λ a. a.before) k (suc k) arcs (omega arith) o
    by Outtree o = rising_more (λ a. a.after) (k + 1) (suc k + 1) arcs (omega arith) o
    by _ o = o

one : (order : Order) (n k : ℕ) (arcs : List Arc) (a : Arc)
    → a.before < a.after → a.after < n → KeepsOrder order (suc k) (arcs ++ a ∷ []) → KeepsArcs order n k arcs → KeepsArcs order n (suc k) (arcs ++ a ∷ [])
one order n k arcs a l m o h =
    record { few = omega (arith, h.few, length-append arcs (a ∷ [])); forward = All-push (λ b. (b.before < b.after) × (b.after < n)) arcs a h.forward (l, m); ordered = o }

mostly : {A : Type 0} (P : List A → Type 0) (rule : ℕ → Drawn (List A)) (s : ℕ) → P [] → ((t : ℕ) → P (rule t).value) → P (draw_mostly rule s).value
mostly P rule s z h = by ((draw 3 s).value == 0)
  where
    by : (b : Bool) → P (if b then without_draw [] (draw 3 s).seed else rule (draw 3 s).seed).value
    by true = z
    by false = h (draw 3 s).seed

new_arc : (arcs : List Arc) (a : Arc) (P : List Arc → Type 0) → P [] → (All (λ b. b ≢ a) arcs → P (a ∷ [])) → P (added arcs a)
new_arc arcs a P z h = by (list_any (is_same a) arcs) refl
  where
    same : is_same a a ≡ true
    same = rw (eq-eqb a.before a.before refl, eq-eqb a.after a.after refl) refl

    by : (b : Bool) → list_any (is_same a) arcs ≡ b → P (if b then [] else a ∷ [])
    by true e = z
    by false e = h (λ k d l q. absurd (let yes = list_any_at (is_same a) arcs k d l (ap (is_same a) q ∙ same) in cc))

-- ---- a turn
turn : (order : Order) (n k : ℕ) (arcs : List Arc) (s : ℕ) → k < arc_turns order n → KeepsArcs order n k arcs → KeepsArcs order n (suc k) (arcs ++ (draw_arcs order n k arcs s).value)
turn Free n k arcs s l h = absurd (omega (arith, l))
turn Chains n k arcs s l h =
    mostly (λ xs. KeepsArcs Chains n (suc k) (arcs ++ xs)) (without_draw (record { before = k; after = k + 1 } ∷ [])) s (more Chains n k arcs h)
    (λ t. one Chains n k arcs (record { before = k; after = k + 1 }) (omega arith) (omega (arith, l)) (
      rising_behind (λ a. a.before) k (suc k) arcs (record { before = k; after = k + 1 }) (omega arith) (omega arith) h.ordered.0,
      rising_behind (λ a. a.after) (k + 1) (suc k + 1) arcs (record { before = k; after = k + 1 }) (omega arith) (omega arith) h.ordered.1,
    ) h)
turn Intree n k arcs s l h =
    mostly (λ xs. KeepsArcs Intree n (suc k) (arcs ++ xs)) (draw_arc_from n k) s (more Intree n k arcs h)
    (λ t. let b = draw_below (min (n - 1 - k) 5) t (omega (arith, l)) in
    one Intree n k arcs (record { before = k; after = (draw_behind n k t).value }) (omega arith) (omega (arith, l, b))
    (rising_behind (λ a. a.before) k (suc k) arcs (record { before = k; after = (draw_behind n k t).value }) (omega arith) (omega arith) h.ordered) h)
turn Outtree n k arcs s l h =
    mostly (λ xs. KeepsArcs Outtree n (suc k) (arcs ++ xs)) (draw_arc_into (k + 1)) s (more Outtree n k arcs h)
    (λ t. let b = draw_below (min (k + 1) 5) t (omega arith) in
    one Outtree n k arcs (record { before = (draw_before (k + 1) t).value; after = k + 1 }) (omega (arith, b)) (omega (arith, l))
    (rising_behind (λ a. a.after) (k + 1) (suc k + 1) arcs (record { before = (draw_before (k + 1) t).value; after = k + 1 }) (omega arith) (omega arith) h.ordered) h)
turn Prec n k arcs s l h =
    let a : Arc = record { before = (draw_before (k / 2 + 1) s).value; after = k / 2 + 1 } in
    let b = draw_below (min (k / 2 + 1) 5) s (omega arith) in
    new_arc arcs a (λ xs. KeepsArcs Prec n (suc k) (arcs ++ xs)) (more Prec n k arcs h)
    (λ apart. one Prec n k arcs a (omega (arith, b)) (omega (arith, l)) (all_pairs_push (λ b c. b ≢ c) arcs a h.ordered apart) h)

pub arcs_fit : (order : Order) (n s : ℕ) → KeepsArcs order n (arc_turns order n) (draw_turns (draw_arcs order n) (arc_turns order n) s).value
arcs_fit order n s = turns_keep (KeepsArcs order n) (draw_arcs order n) (arc_turns order n) s (none order n) (λ k before t l h. turn order n k before t l h)

-- ---- what the conditions say
pub arcs_apart : (order : Order) (n k : ℕ) (arcs : List Arc) → KeepsArcs order n k arcs → AllPairs (λ a b. a ≢ b) arcs
arcs_apart order n k arcs h = by order h.ordered
  where
    by : (order : Order) → KeepsOrder order k arcs → AllPairs (λ a b. a ≢ b) arcs
    by Free o = subst (AllPairs (λ a b. a ≢ b)) (sym o) (λ i j d l m. absurd (omega (arith, m)))
    by Chains o = rising_apart (λ a. a.before) k arcs o.0
    by Intree o = rising_apart (λ a. a.before) k arcs o
    by Outtree o = rising_apart (λ a. a.after) (k + 1) arcs o
    by Prec o = o

pub degree_fits : (order : Order) (n k : ℕ) (arcs : List Arc) → KeepsArcs order n k arcs → (j : ℕ) → HasDegree order arcs j
degree_fits order n k arcs h j = by order h.ordered
  where
    by : (order : Order) → KeepsOrder order k arcs → HasDegree order arcs j
    by Chains o = (rising_once (λ a. a.before) k arcs o.0 j, rising_once (λ a. a.after) (k + 1) arcs o.1 j)
    by Intree o = rising_once (λ a. a.before) k arcs o j
    by Outtree o = rising_once (λ a. a.after) (k + 1) arcs o j
    by _ o = tt

pub number_fits : (order : Order) (n : ℕ) (arcs : List Arc) → n ≤ MOST_JOBS → KeepsArcs order n (arc_turns order n) arcs → HasArcs order arcs
number_fits Free n arcs l h = h.ordered
number_fits _ n arcs l h = omega (arith, h.few, l)
