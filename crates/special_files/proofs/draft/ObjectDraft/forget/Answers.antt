use Rattle.std.proofs.Common.{◌/◌, Bool, false, true, List, get_or, get_or-set_other, get_or-set_same, length, ◌∙◌, ap, arith}
use Rattle.std.proofs.Math.ListN.{length-set}
use Rattle.special_files.proofs.Words.{Drafting, leaf_pointers}
use Rattle.special_files.proofs.draft.ObjectDraft.forget.Goals as goal

pub returns-then-from-ne0 : goal.returns-then-from-ne0
returns-then-from-ne0 c block cuts =
    let is = c.self.view_is in
    let from = c.args.from in
    let n = from / leaf_pointers.count in
    let nodes = c.clear_from-2.new.self in
    let up = c.div_ceil.ensures in
    let put = c.put.ensures in
    let long = c.clear_from-2.ensures.long in
    record {
      stays = record {
        at = ap (λ (d : Drafting). d.at) is;
        shadow = ap (λ (d : Drafting). d.shadow) is;
        own = ap (λ (d : Drafting). d.own) is;
        created = ap (λ (d : Drafting). d.created) is;
        word = cuts.word;
        root = record { kind = cuts.kind; fill = cuts.fill; size = cuts.size };
      };
      long_leaves = c.clear_from.ensures.long ∙ ap (λ (d : Drafting). length d.leaves) is;
      long_nodes = ap (length {A = Bool}) put ∙ length-set nodes n true ∙ long ∙ ap (λ (d : Drafting). length d.nodes) is;
      count = omega (arith, ap (λ (d : Drafting). length d.root.nodes) is);
      leaf_before = λ l less. c.clear_from.ensures.before l less ∙ ap (λ (d : Drafting). get_or d.leaves l false) is;
      leaf_past = λ l over. c.clear_from.ensures.after l over;
      before = λ m less. (
        ap (λ (fs : List Bool). get_or fs m false) put ∙ get_or-set_other nodes n m true false (λ same. omega (arith, same, less, c.if-from-ne0.true)) ∙ c.clear_from-2.ensures.before m (omega (arith, up, less)) ∙ ap (λ (d : Drafting). get_or d.nodes m false) is,
        cuts.before m less,
      );
      past = λ m over. (
        ap (λ (fs : List Bool). get_or fs m false) put ∙ get_or-set_other nodes n m true false (λ same. omega (arith, same, over, c.if-from-ne0.true)) ∙ c.clear_from-2.ensures.after m (omega (arith, up, over)),
        cuts.past m over,
      );
      here = λ within. (
        ap (λ (fs : List Bool). get_or fs n false) put ∙ get_or-set_same nodes n true false (omega (arith, long, c.self.invariant.2, c.requires.limit, within)),
        cuts.here within,
      );
    }

pub returns-else-from-ne0 : goal.returns-else-from-ne0
returns-else-from-ne0 c block cuts =
    let is = c.self.view_is in
    let up = c.div_ceil.ensures in
    record {
      stays = record {
        at = ap (λ (d : Drafting). d.at) is;
        shadow = ap (λ (d : Drafting). d.shadow) is;
        own = ap (λ (d : Drafting). d.own) is;
        created = ap (λ (d : Drafting). d.created) is;
        word = cuts.word;
        root = record { kind = cuts.kind; fill = cuts.fill; size = cuts.size };
      };
      long_leaves = c.clear_from.ensures.long ∙ ap (λ (d : Drafting). length d.leaves) is;
      long_nodes = c.clear_from-2.ensures.long ∙ ap (λ (d : Drafting). length d.nodes) is;
      count = omega (arith, ap (λ (d : Drafting). length d.root.nodes) is);
      leaf_before = λ l less. c.clear_from.ensures.before l less ∙ ap (λ (d : Drafting). get_or d.leaves l false) is;
      leaf_past = λ l over. c.clear_from.ensures.after l over;
      before = λ m less. (c.clear_from-2.ensures.before m (omega (arith, up, less)) ∙ ap (λ (d : Drafting). get_or d.nodes m false) is, cuts.before m less);
      past = λ m over. (c.clear_from-2.ensures.after m (omega (arith, up, over, c.if-from-ne0.false)), cuts.past m over);
      here = λ within. absurd (omega (arith, within, c.if-from-ne0.false));
    }
