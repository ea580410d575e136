-- One step of the loop that reads what Smith's rule compares, at the numbers as the code passes them.
use Rattle.std.proofs.Common.{◌≡◌, ℕ, ◌<◌, List, [], ◌∷◌, ◌++◌, length, get_or, All, sym, ap, ◌∙◌, subst, slice_index_or}
use Rattle.std.proofs.lemmas.List.Elements.{All-push}
use Rattle.msp_instance.specs.declared.Job.{Job}
use Rattle.msp_instance.specs.declared.Instance.{Instance}
use Rattle.msp_instance.specs.Instance.{no_need, job_at, need_at}
use Rattle.msp_single.specs.declared.smith.Load.{Load}
use Rattle.msp_route.proofs.JobReads.{read_job}

abbrev pub IsLoadOf : Instance → Load → Type 0
IsLoadOf i x = (x.time ≡ (need_at i x.job 0).time) × (x.weight ≡ (job_at i x.job).weight)

pub each-next : (i : Instance) (new ls : List Load) (x : Load) (jobs : List Job) (k : ℕ) (j w : Job)
    → new ≡ ls ++ x ∷ [] → jobs ≡ i.jobs → k < length jobs → j ≡ get_or jobs k j → w ≡ get_or jobs k w →
    x.job ≡ k → x.time ≡ (slice_index_or j.needs 0 no_need).time → x.weight ≡ w.weight → All (IsLoadOf i) ls → All (IsLoadOf i) new
each-next i new ls x jobs k j w e same l at at' is time weight so_far =
    let P : List Load → Type 0 = All (IsLoadOf i) in
    subst P (sym e) (All-push (IsLoadOf i) ls x so_far (
      time ∙ ap (λ y. (slice_index_or y.needs 0 no_need).time) (read_job i jobs k j same l at) ∙ ap (λ n. (need_at i n 0).time) (sym is),
      weight ∙ ap (λ y. y.weight) (read_job i jobs k w same l at') ∙ ap (λ n. (job_at i n).weight) (sym is),
    ))
