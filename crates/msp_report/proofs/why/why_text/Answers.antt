-- The goals of `why_text` that are proved by lemmas.
use Rattle.std.specs.Option.{is_some}
use Rattle.msp_closure.specs.Entries.{mark_of}
use Rattle.msp_report.proofs.WhyLemmas.{Says-by_chains, put_whole}
use Rattle.msp_report.proofs.why.why_text.Goals as goal

pub returns : goal.returns
returns c = record {
  mark = mark_of (is_some c.args.easy.now) (is_some c.args.pseudo.now) (is_some c.args.hard.now) (is_some c.args.strong.now);
  clash = c.in_ok-clash.clash;
  strong_clash = c.in_ok-strong_clash.strong_clash;
  label_is = Says-by_chains c.args.entries.now c.args.class c.args.easy.now c.args.pseudo.now c.args.hard.now c.args.strong.now c.requires.easy_chain
      c.requires.pseudo_chain c.requires.hard_chain c.requires.strong_chain;
  clash_is = c.in_ok-clash.ensures.way;
  strong_clash_is = c.in_ok-strong_clash.ensures.way;
  text_is = put_whole _ _ _ _ _ _ c.new-out.ensures.items c.in_ok-put_shown.ensures c.in_ok-put_ending.ensures;
}
