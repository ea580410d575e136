-- The goals of `print_instance` that are proved by lemmas.
use Rattle.std.proofs.Common.{ap, ◌++◌, ◌∙◌}
use Rattle.msp_name.specs.Names.{name_of}
use Rattle.msp_name.proofs.PrintLemmas.{name_of-NameOf}
use Rattle.msp_grammar.specs.InstanceText.{instance_text}
use Rattle.msp_grammar.proofs.instance_printer.print_instance.Goals as goal

pub returns-clause-text : goal.returns-clause-text
returns-clause-text c =
    let filed = c.args.filed.now in
    record {
      spelling = name_of filed.instance.class;
      spells = name_of-NameOf filed.instance.class;
      text = c.in_ok-put_instance.ensures ∙ ap (λ out. out ++ instance_text (name_of filed.instance.class) filed.names filed.instance) c.new-out.ensures.items;
      named = record { one_each = c.requires.named; spelled = c.len.ensures.names; distinct = c.len.ensures.distinct };
      in_class = c.requires.in_class;
    }
