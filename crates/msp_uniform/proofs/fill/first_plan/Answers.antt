use Rattle.std.proofs.Common.{◌≡◌, ◌∙◌, vec_len, arith, replicate, length, refl, ap}
use Rattle.msp_uniform.proofs.FirstFacts.{only_one}
use Rattle.msp_uniform.proofs.fill.first_plan.Goals as goal

pub returns : goal.returns
returns c = let many : vec_len c.args.task.now.times ≡ length c.args.task.now.times.items = omega (arith, c.args.task.now.times.ok) in record {
  x = _;
  only = only_one _ _ _ c.in_ok-push.ensures.items c.new-segments.ensures.items;
  unit_is = c.from.ensures;
  places = refl;
  long = c.from-length.ensures;
  jobs = ap (λ b. b.jobs) c.in_ok-body.ensures.ok ∙ c.same-jobs.ensures ∙ ap (replicate (length c.args.machines.now)) (c.len.ensures ∙ many);
  free = ap (λ b. b.free) c.in_ok-body.ensures.ok ∙ c.all_free-free.ensures;
}
