use Rattle.std.proofs.Common.{◌≡◌, ℕ, ◌/◌, ◌%◌, ◌<◌, Some, refl, sym, ◌∙◌, ap, subst, arith}
use Rattle.cfs_base.proofs.Passed.{is_passed}
use Rattle.special_files.proofs.Ways.{end_is_read, way_of_none}
use Rattle.special_files.proofs.Words.{Drafting, FillsDraft, IsNearSwap, Swap, way_leaves, slice_index, IsRead, IsSafe, with_slot, leaf_limit, leaf_pointers}
use Rattle.special_files.proofs.fill.Fills.{fill_fits, fill_put, fill_refused, slot_put, stays_empty}
use Rattle.special_files.proofs.fill.Swapped.{near_swap}
use Rattle.special_files.proofs.View.{read_leaves, read_refused, view_tree}
use Rattle.special_files.proofs.WriteLeaf.{leaf_changed, leaf_since, leaf_stopped}
use Rattle.special_files.proofs.draft.ObjectDraft.fill.Goals as goal

-- ---- the leaf couldn't be read

pub returns-in_err-content-clause-goes : goal.returns-in_err-content-clause-goes
returns-in_err-content-clause-goes g c = λ v. let turns = c.in_err-content.ensures.turns in read_refused turns.reads _ _ c.from_residual.ensures.1 (turns.sound (view_tree v) (way_of_none (g.D.Disk.content c.args.disk.now) c.args.self.now.root c.new-way.result c.new-way.ensures))

pub returns-in_err-content-clause-call : goal.returns-in_err-content-clause-call
returns-in_err-content-clause-call g c = let turns = c.in_err-content.ensures.turns in rw (is_passed _ _ c.from_residual.ensures.1) (fill_refused c.args.slot c.args.what (leaf_stopped turns.reads c.leaf_bytes.new.way 8 _ _ refl (omega arith) (turns.refused _)))

-- ---- the slot is empty, and stays so

pub returns-then-is_empty_already-clause-goes : goal.returns-then-is_empty_already-clause-goes
returns-then-is_empty_already-clause-goes g c = λ v.
    let reads = c.in_ok-content.ensures.turns.reads in
    let bytes = c.in_ok-content.ensures.bytes (view_tree v) (way_of_none (g.D.Disk.content c.args.disk.now) c.args.self.now.root c.new-way.result c.new-way.ensures) in
    record {
      done = λ i index. stays_empty v c.args.slot c.args.what c.requires.within i index c.in_ok-content.content bytes _ c.is_empty_already.ensures reads c.if-is_empty_already.true;
      leaves = read_leaves reads;
      sound = tt;
    }

-- ---- the leaf was put, or couldn't be

pub returns : goal.returns
returns g c =
    let was = c.args.self.now in
    let leaf = c.args.slot / 64 in
    let turns = c.in_ok-content.ensures.turns in
    let calls = leaf_since turns.reads 8 c.in_ok-put_leaf.ensures.calls (omega arith) in
    let few : leaf < leaf_limit = omega (arith, c.requires.within, c.if-prove.false, ap (λ (x : Drafting). x.root.size) c.self.view_is) in
    let size = calls.ends.calls.same.size in
    let was_is = c.end-was.ensures ∙ end_is_read c.leaf_bytes.new.way leaf turns.to in
    let now_is = c.end-is.ensures ∙ end_is_read c.put_leaf.new.way leaf calls.to in
    let same : record { leaf = leaf; was = slice_index (way_leaves c.leaf_bytes.new.way) (leaf % leaf_pointers.count); is = slice_index (way_leaves c.put_leaf.new.way) (leaf % leaf_pointers.count) } ≡ record { leaf = leaf; was = c.end-was.result; is = c.end-is.result } = λ i. record { leaf = leaf; was = sym was_is i; is = sym now_is i } in
    record {
      goes = λ v.
          let none : IsRead (g.D.Disk.content c.args.disk.now) was c.new-way.result = way_of_none (g.D.Disk.content c.args.disk.now) was.root c.new-way.result c.new-way.ensures in
          let bytes = c.in_ok-content.ensures.bytes (view_tree v) none in
          let puts = leaf_changed turns.reads v c.new-way.result c.leaf_bytes.new.way c.put_leaf.new.way leaf c.put_slot.new.block _ turns.node none (c.put_slot.ensures.put ∙ ap (with_slot (c.args.slot % 64) c.args.what) bytes) (fill_fits v c.args.slot c.args.what c.requires.within) c.in_ok-put_leaf.ensures.goes in
          record {
            done = λ i index. subst (λ (s : Swap). FillsDraft v i c.args.slot c.args.what c.put_leaf.new.disk c.put_leaf.new.space c.put_leaf.new.self (Some s)) same
                (slot_put v c.args.slot c.args.what c.requires.within i index c.in_ok-content.content bytes _ c.is_empty_already.ensures calls.stays puts.done c.if-is_empty_already.false c.requires.slot c.leaf_bytes.new.way turns.to calls.to (turns.node v.store.carries.tells none));
            leaves = puts.leaves;
            sound = tt;
          };
      call = fill_put c.args.slot c.args.what _ calls (λ equal. subst (IsNearSwap (g.D.Disk.blocks c.put_leaf.new.disk) c.put_leaf.new.self) same
          (near_swap was c.put_leaf.new.self leaf few c.leaf_bytes.new.way c.put_leaf.new.way turns.to calls.to equal calls.stays.own _ (omega (arith, c.requires.on_disk, size))
          (subst (λ (n : ℕ). IsSafe n was c.leaf_bytes.new.way) (sym size) turns.safe) calls.safe));
    }

pub returns-in_err-put_leaf : goal.returns-in_err-put_leaf
returns-in_err-put_leaf g c = rw (is_passed _ _ c.from_residual-in_err-put_leaf.ensures.1)
    (let turns = c.in_ok-content.ensures.turns in
    record {
      goes = λ v.
          let none : IsRead (g.D.Disk.content c.args.disk.now) c.args.self.now c.new-way.result = way_of_none (g.D.Disk.content c.args.disk.now) c.args.self.now.root c.new-way.result c.new-way.ensures in
          let bytes = c.in_ok-content.ensures.bytes (view_tree v) none in
          let puts = leaf_changed turns.reads v c.new-way.result c.leaf_bytes.new.way c.put_leaf.new.way (c.args.slot / 64) c.put_slot.new.block _ turns.node none (c.put_slot.ensures.put ∙ ap (with_slot (c.args.slot % 64) c.args.what) bytes) (fill_fits v c.args.slot c.args.what c.requires.within) c.in_err-put_leaf.ensures.goes in
          record { done = tt; leaves = puts.leaves; sound = puts.sound };
      call = fill_refused c.args.slot c.args.what (leaf_since turns.reads 8 c.in_err-put_leaf.ensures.calls (omega arith));
    })
