use Rattle.std.proofs.Common.{◌≡◌, rules, sym, ap, ◌∙◌}
use Rattle.msp_class.specs.Rank.{rank_of}
use Rattle.msp_class.proofs.RankLemmas.{rank_of-injective}
use Rattle.msp_dispatch.proofs.pick.is_same.Goals as goal

pub returns : goal.returns
returns c = (
  λ t. let same : c.rank.result ≡ c.rank-2.result = search rules in rank_of-injective c.args.a c.args.b (sym c.rank.ensures.rank ∙ same ∙ c.rank-2.ensures.rank),
  λ e. let same : c.rank.result ≡ c.rank-2.result = c.rank.ensures.rank ∙ ap rank_of e ∙ sym c.rank-2.ensures.rank in search rules,
)
