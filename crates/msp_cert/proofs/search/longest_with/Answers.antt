use Rattle.std.proofs.Common.{List, ℕ, subst}
use Rattle.std.proofs.lemmas.Result.{IfOk-weaker}
use Rattle.msp_cert.specs.Search.{AreLongestFirst, HasValue, IsFirst, groups}
use Rattle.msp_cert.proofs.search.longest_with.Goals as goal

pub returns : goal.returns
returns c =
    let i = c.args.inst.now in
    let longest = c.in_ok-longest.longest.items in
    IfOk-weaker c.group_with.result (IsFirst (HasValue i c.args.cost.now) (groups i c.as_slice.result.now))
    (λ found. (x : List ℕ) × AreLongestFirst i x × IsFirst (HasValue i c.args.cost.now) (groups i x) found)
    (λ found first. (longest, c.in_ok-longest.ensures, subst (λ (l : List ℕ). IsFirst (HasValue i c.args.cost.now) (groups i l) found) c.as_slice.ensures.value first)) c.group_with.ensures
