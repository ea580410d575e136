-- No feasible schedule on two machines in series, cut or not, ends before the laid pieces, so they are best.
use Rattle.std.proofs.Common.{ap, ◌≡◌, ℕ, ◌+◌, ◌*◌, ◌<◌, ◌≤◌, inl, inr, max, List, All, AllPairs, sum_by, nat_abs, subst, arith, le_trans, mul-le-mul_left}
use Rattle.msp_class.specs.Env.{is_shop_kind}
use Rattle.msp_class.proofs.IntegerRing.{pos-le}
use Rattle.msp_instance.specs.declared.Instance.{Instance}
use Rattle.msp_pieces.specs.declared.Piece.{Piece}
use Rattle.msp_pieces.specs.declared.Schedule.{Schedule}
use Rattle.msp_pieces.specs.Feasible.{Feasible}
use Rattle.msp_pieces.specs.Piece.{finish}
use Rattle.msp_shops.specs.declared.pass.JobTimes.{JobTimes}
use Rattle.msp_shops.specs.Order.{GoesBefore}
use Rattle.msp_shops.specs.Pass.{IsCritical}
use Rattle.msp_shops.specs.Groups.{IsTwoMachineShop, IsJohnsonGroup}
use Rattle.msp_shops.specs.Laid.{after, AreLaid}
use Rattle.msp_shops.proofs.Cut.{HaveTwoStages}
use Rattle.msp_shops.proofs.JohnsonOrder.{johnson_bound}
use Rattle.msp_shops.proofs.Shops.{IsPlainShop, IsLeastEnd-from_pieces, IsBestPlan, IsBestPlan-from_plan, over_one}
use Rattle.msp_shops.proofs.Stages.{ready, two_stages, load}
use Rattle.msp_shops.proofs.LaidPieces.{last, IsShopPlan-laid, laid_ends, laid_few, laid_short}

pub IsPlainShop-from_two_machines : (i : Instance) → IsTwoMachineShop i → IsPlainShop i
IsPlainShop-from_two_machines i shop = record {
  kind = elim shop.kind [ inl e ↦ ap is_shop_kind e | inr e ↦ ap is_shop_kind e ];
  crit = shop.crit;
  arcs = shop.arcs;
  release = shop.release;
  some = shop.some;
}

-- ---- lower: each feasible schedule
module _ (i : Instance) (shop : IsTwoMachineShop i) (s : Schedule) (f : Feasible i s) (end : ℕ) (ends : All (λ p. finish p ≤ end) s.pieces) where
  abbrev unit : ℕ
  unit = nat_abs s.unit

  second_is_over : (m : ℕ) → m < 2 → (jobs others : List JobTimes) → IsJohnsonGroup i m jobs
      → unit * (sum_by (λ t. t.first) others + sum_by (λ t. t.second) jobs) ≤ end → (y : ℕ) → IsCritical jobs (after others) y → unit * y ≤ end
  second_is_over m two jobs others g full y (inl e) = le_trans (mul-le-mul_left unit (omega (arith, e))) full
  second_is_over m two jobs others g full y (inr (before, k, rest, is, e)) =
      let S : List JobTimes → Type 0 = HaveTwoStages (λ t. t.first) (λ t. t.second) (ready i shop s f end ends m) unit end in
      le_trans (mul-le-mul_left unit (omega (arith, e)))
      (johnson_bound (λ t. t.first) (λ t. t.second) (ready i shop s f end ends m) unit end before k rest
      (subst (AllPairs (GoesBefore (λ t. t.first) (λ t. t.second))) is g.order) (subst S is (two_stages i shop s f end ends m two jobs g.group)))

  module _ (here there : List JobTimes) (group_here : IsJohnsonGroup i 0 here) (group_there : IsJohnsonGroup i 1 there) (ps : List Piece) (h : AreLaid here there ps) where
    load_here : unit * (sum_by (λ t. t.first) here + sum_by (λ t. t.second) there) ≤ end
    load_here = load i shop s f end ends 0 (omega arith) here there group_here.group group_there.group

    load_there : unit * (sum_by (λ t. t.first) there + sum_by (λ t. t.second) here) ≤ end
    load_there = load i shop s f end ends 1 (omega arith) there here group_there.group group_here.group

    greater : (w x y z : ℕ) → unit * w ≤ end → unit * x ≤ end → unit * y ≤ end → unit * z ≤ end → unit * max (max w x) (max y z) ≤ end
    greater w x y z a b c d = grind arith

    pub last_is_over : unit * last i shop here there group_here.group group_there.group ps h ≤ end
    last_is_over = greater h.end_here.first h.end_here.second h.end_there.first h.end_there.second
        (le_trans (mul-le-mul_left unit (omega (arith, h.pass_here.first_end))) load_here)
        (second_is_over 0 (omega arith) here there group_here load_there h.end_here.second h.pass_here.second_end)
        (le_trans (mul-le-mul_left unit (omega (arith, h.pass_there.first_end))) load_there)
        (second_is_over 1 (omega arith) there here group_there load_here h.end_there.second h.pass_there.second_end)

-- ---- the answer
pub IsBestPlan-laid : (i : Instance) (shop : IsTwoMachineShop i)
    (here there : List JobTimes) (group_here : IsJohnsonGroup i 0 here) (group_there : IsJohnsonGroup i 1 there) (ps : List Piece) (h : AreLaid here there ps)
    → IsBestPlan i (last i shop here there group_here.group group_there.group ps h) (over_one ps)
IsBestPlan-laid i shop here there group_here group_there ps h =
    IsBestPlan-from_plan i (IsPlainShop-from_two_machines i shop) (last i shop here there group_here.group group_there.group ps h)
    (IsLeastEnd-from_pieces i (last i shop here there group_here.group group_there.group ps h) (λ t f c ends. last_is_over i shop t f c ends here there group_here group_there ps h))
    ps (IsShopPlan-laid i shop here there group_here.group group_there.group ps h)
    (omega (arith, laid_few i shop here there group_here.group group_there.group ps h, shop.few)) (laid_ends i shop here there group_here.group group_there.group ps h)
    (pos-le (omega (arith, laid_short i shop here there group_here.group group_there.group ps h)))

-- as the code has it
pub IsBestPlan-read : (i : Instance) (shop : IsTwoMachineShop i) (here there here_read there_read : List JobTimes) (ps : List Piece)
    → IsJohnsonGroup i 0 here → IsJohnsonGroup i 1 there → here_read ≡ here → there_read ≡ there
    → AreLaid here_read there_read ps → (end : ℕ) × IsBestPlan i end (over_one ps)
IsBestPlan-read i shop here there here_read there_read ps a b e f h = (_, IsBestPlan-laid i shop here there a b ps (subst (λ l. AreLaid here l ps) f (subst (λ l. AreLaid l there_read ps) e h)))
