use Rattle.std.proofs.Common.{◌%◌, List, ℕ, sym, ◌∙◌, ap, arith, rules}
use Rattle.special_files.proofs.Ways.{way_of_none}
use Rattle.special_files.proofs.Words.{index_to_leaves, leaves_below, slot_in}
use Rattle.cfs_base.proofs.Passed.{is_passed}
use Rattle.special_files.proofs.View.{seen_tree}
use Rattle.special_files.proofs.draft.ObjectDraft.slot.Goals as goal

pub returns-clause-looks : goal.returns-clause-looks
returns-clause-looks g c = λ v. record {
  found = λ i index.
      let tree = seen_tree v in
      let root = c.args.self.now.root in
      let gives = index_to_leaves root (leaves_below (g.D.Disk.content c.args.disk.now) root) i (tree.tree.object ∙ index) in
      c.slot_at.ensures ∙ ap (λ (content : List ℕ). slot_in content (c.args.slot % 64)) (c.in_ok-content.ensures.bytes tree (way_of_none (g.D.Disk.content c.args.disk.now) c.args.self.now.root c.new-way.result c.new-way.ensures))
      ∙ sym (gives.slots c.args.slot (omega (arith, c.requires.within)));
  sound = tt;
}

pub returns-in_err-content : goal.returns-in_err-content
returns-in_err-content g c =
    let turns = c.in_err-content.ensures.turns in
    record {
      looks = λ v. record { found = search rules; sound = rw (is_passed _ _ c.from_residual.ensures.1) (turns.sound (seen_tree v) (way_of_none (g.D.Disk.content c.args.disk.now) c.args.self.now.root c.new-way.result c.new-way.ensures)) };
      call = record {
        refused = λ kept. rw (is_passed _ _ c.from_residual.ensures.1) (turns.refused kept);
        untried = search rules;
        reads = turns.reads;
      };
    }
