-- The goals of `with_zeros` that are proved by lemmas.
use Rattle.std.proofs.Common.{length, ap, ◌++◌, ◌∙◌, drop, replicate}
use Rattle.std.proofs.lemmas.List.{drop-replicate}
use Rattle.msp_text.proofs.padded.with_zeros.Goals as goal

pub returns : goal.returns
returns c =
    ap (λ s. s ++ drop (length c.args.bytes.now) (replicate 32 0)) c.copy_from_slice.ensures.after
    ∙ ap (λ s. c.args.bytes.now ++ s) (drop-replicate (length c.args.bytes.now) 32 0)
