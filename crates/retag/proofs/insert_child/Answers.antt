-- The row is the codes of the definition's child.
use native.Mathlib.Omega.{arith}
use Rattle.definition.proofs.Retags.{settings_after_init}
use Rattle.retag.specs.Settings.{settings_of, child_at}
use Rattle.retag.proofs.Children.{child_fits}
use Rattle.retag.proofs.Grown.{count_small}
use Rattle.retag.proofs.insert_child.Goals as goal

pub overflow_cast-node : goal.overflow_cast-node
overflow_cast-node c = omega (arith, c.requires.holds_marked.1.1.reached.in_tree, count_small c.requires.holds_marked.0 c.requires.holds_marked.1.0.valid c.args.n c.requires.holds_marked.1.1.reached.made)

pub insert_node_at-requires : goal.insert_node_at-requires
insert_node_at-requires c = let (h, fits, long, at) = c.requires.holds_marked.1 in
    let (mask, e) = c.requires.inside_value in record {
      node_fits = (
        c.requires.holds_marked.0,
        (
          child_at (settings_after_init (settings_of c.args.settings mask)) c.args.node c.args.from c.args.bytes,
          (child_fits c.args.settings mask h fits long e c.start_code-outside.ensures c.protector_number-number.ensures, at),
        ),
      );
      inside_bound = omega (arith, long, fits.reached.within);
    }

pub returns : goal.returns
returns c = λ m mask h fits long at e.
    c.insert_node_at.ensures m (child_at (settings_after_init (settings_of c.args.settings mask)) c.args.node c.args.from c.args.bytes)
    (child_fits c.args.settings mask h fits long e c.start_code-outside.ensures c.protector_number-number.ensures) at
