use Rattle.std.proofs.Common.{ℕ, ◌/◌, ◌<◌, Ok, Err, length, sym, ◌∙◌, ap, subst, arith, ◌≡◌, false}
use Rattle.special_files.proofs.Ways.{node_is_safe}
use Rattle.special_files.proofs.Words.{All, AreShed, Drafting, DropCall, Forgets, HasParts, IsRead, IsSafe, IsDraftTrouble, PutsWithin, given_all, is_fresh_node, pointer_to_node, opened_as, refusal_after, top_of, way_leaves, leaf_pointers}
use Rattle.special_files.proofs.shrink.ShedDrop.{drop_done, drop_ok_call, drop_put_err, drop_undo_err, list_err_call, put_ends, put_err_call, undo_err_call}
use Rattle.special_files.proofs.WriteLeaf.{goes_stopped}
use Rattle.special_files.proofs.draft.ObjectDraft.drop_from.Goals as goal

-- the draft by its parts
parts : (was now : Drafting) → now ≡ was → HasParts was now.root now.leaves now.nodes
parts was now is = record { root_is = ap (λ (w : Drafting). w.root) (sym is); leaves_is = ap (λ (w : Drafting). w.leaves) (sym is); nodes_is = ap (λ (w : Drafting). w.nodes) (sym is) }

pub list_from-requires-clause-safe : goal.list_from-requires-clause-safe
list_from-requires-clause-safe g c = subst (λ (w : Drafting). IsSafe (g.D.Disk.blocks c.args.disk.now) w c.args.way.now) (sym c.self.view_is) c.requires.safe

-- ---- the list

pub returns-in-Err-clause-goes : goal.returns-in-Err-clause-goes
returns-in-Err-clause-goes g c = λ v is keeps.
    goes_stopped c.in-Err.ensures.reads c.in-Err.trouble _ c.from.ensures (c.in-Err.ensures.sound c.args.space.now c.args.self.now v (parts c.args.self.now _ c.self.view_is) (subst (λ (w : Drafting). IsRead (g.D.Disk.content c.args.disk.now) w c.args.way.now) (sym c.self.view_is) is))

pub returns-in-Err-clause-calls : goal.returns-in-Err-clause-calls
returns-in-Err-clause-calls g c = subst (λ (w : Drafting). DropCall g.D.Disk c.args.from c.args.disk.now c.list_from.new.disk c.args.space.now c.args.space.now c.args.self.now w (Err c.from.result)) (sym c.self.view_is)
    (list_err_call c.in-Err.ensures.reads (λ stale. (c.list_from.ensures.none (λ n. ap (λ (w : Drafting). is_fresh_node w n) c.self.view_is ∙ stale n)).2) c.args.from c.args.space.now c.in-Err.trouble _ c.from.ensures
    (subst (λ (w : Drafting). IsDraftTrouble g.D.Disk (top_of w) c.args.disk.now c.list_from.new.disk c.args.space.now c.in-Err.trouble) c.self.view_is (c.in-Err.ensures.refused c.args.space.now)))

-- ---- the node

pub put_within-requires-clause-safe : goal.put_within-requires-clause-safe
put_within-requires-clause-safe g c = λ within.
    let below = node_is_safe (g.D.Disk.blocks c.args.disk.now) c.args.self.now.root c.args.way.now (c.args.from / leaf_pointers.count) (c.requires.here within) c.requires.safe in
    subst (λ (w : Drafting). pointer_to_node w.root (c.args.from / leaf_pointers.count) < g.D.Disk.blocks c.list_from.new.disk) (sym c.self.view_is) (omega (arith, below, c.in-Ok.ensures.reads.same.size))

pub returns-in-Err-put_within-clause-goes : goal.returns-in-Err-put_within-clause-goes
returns-in-Err-put_within-clause-goes g c = λ v is keeps.
    drop_put_err v c.args.from c.args.way.now c.in-Ok.ensures.reads c.requires.limit is c.requires.here keeps c.put_within.new.disk c.put_within.new.space _
    (subst (λ (w : Drafting). PutsWithin g.D.Disk c.args.from (way_leaves c.args.way.now) w c.list_from.new.disk c.put_within.new.disk c.args.space.now c.put_within.new.space (Err c.in-Err-put_within.error)) c.self.view_is c.in-Err-put_within.ensures.puts)

pub returns-in-Err-put_within-clause-calls : goal.returns-in-Err-put_within-clause-calls
returns-in-Err-put_within-clause-calls g c = subst (λ (w : Drafting). DropCall g.D.Disk c.args.from c.args.disk.now c.put_within.new.disk c.args.space.now c.put_within.new.space c.args.self.now w (Err c.in-Err-put_within.error)) (sym c.self.view_is)
    (put_err_call c.in-Ok.ensures.reads (λ stale. (c.list_from.ensures.none (λ n. ap (λ (w : Drafting). is_fresh_node w n) c.self.view_is ∙ stale n)).2) c.args.from (way_leaves c.args.way.now) _
    (subst (λ (w : Drafting). PutsWithin g.D.Disk c.args.from (way_leaves c.args.way.now) w c.list_from.new.disk c.put_within.new.disk c.args.space.now c.put_within.new.space (Err c.in-Err-put_within.error)) c.self.view_is c.in-Err-put_within.ensures.puts))

-- ---- the claims

pub undo_listed-requires : goal.undo_listed-requires
undo_listed-requires g c =
    let puts = subst (λ (w : Drafting). PutsWithin g.D.Disk c.args.from (way_leaves c.args.way.now) w c.list_from.new.disk c.put_within.new.disk c.args.space.now c.put_within.new.space (Ok c.in-Ok-put_within.field-0)) c.self.view_is c.in-Ok-put_within.ensures.puts in
    let size = (put_ends c.in-Ok.ensures.reads (λ stale. (c.list_from.ensures.none (λ n. ap (λ (w : Drafting). is_fresh_node w n) c.self.view_is ∙ stale n)).2) c.args.from (way_leaves c.args.way.now) _ puts).calls.same.size ∙ c.in-Ok.ensures.reads.same.size in
    subst (λ (k : ℕ). All (λ n. n < k) c.as_slice.result.now) (sym size) (subst (All (λ n. n < g.D.Disk.blocks c.args.disk.now)) (sym c.as_slice.ensures) c.in-Ok.ensures.on_disk)

pub returns-in-Err-undo_listed-clause-goes : goal.returns-in-Err-undo_listed-clause-goes
returns-in-Err-undo_listed-clause-goes g c = λ v is keeps.
    let puts = subst (λ (w : Drafting). PutsWithin g.D.Disk c.args.from (way_leaves c.args.way.now) w c.list_from.new.disk c.put_within.new.disk c.args.space.now c.put_within.new.space (Ok c.in-Ok-put_within.field-0)) c.self.view_is c.in-Ok-put_within.ensures.puts in
    let listed = c.in-Ok.ensures.listed c.args.space.now c.args.self.now v (parts c.args.self.now _ c.self.view_is) (subst (λ (w : Drafting). IsRead (g.D.Disk.content c.args.disk.now) w c.args.way.now) (sym c.self.view_is) is) in
    drop_undo_err v c.args.from c.args.way.now c.in-Ok.ensures.reads c.requires.limit is c.requires.here keeps c.put_within.new.disk c.put_within.new.space c.in-Ok-put_within.field-0 puts c.as_slice.result.now
    (subst (AreShed (g.D.Disk.content c.args.disk.now) v.id (opened_as c.args.self.now v.draft) c.args.from) (sym c.as_slice.ensures) listed) c.undo_listed.new.disk _ _ c.in-Err-undo_listed.trouble c.in-Err-undo_listed.ensures.flips
    _ _ (c.after.ensures ∙ ap (refusal_after _) c.from-in-Err-undo_listed.ensures)

pub returns-in-Err-undo_listed-clause-calls : goal.returns-in-Err-undo_listed-clause-calls
returns-in-Err-undo_listed-clause-calls g c =
    let puts = subst (λ (w : Drafting). PutsWithin g.D.Disk c.args.from (way_leaves c.args.way.now) w c.list_from.new.disk c.put_within.new.disk c.args.space.now c.put_within.new.space (Ok c.in-Ok-put_within.field-0)) c.self.view_is c.in-Ok-put_within.ensures.puts in
    let list = λ (stale : (n : ℕ) → is_fresh_node c.args.self.now n ≡ false). c.list_from.ensures.none (λ n. ap (λ (w : Drafting). is_fresh_node w n) c.self.view_is ∙ stale n) in
    subst (λ (w : Drafting). DropCall g.D.Disk c.args.from c.args.disk.now c.undo_listed.new.disk c.args.space.now c.put_within.new.space c.args.self.now w (Err c.after.result)) (sym c.self.view_is)
    (undo_err_call c.in-Ok.ensures.reads (λ stale. (list stale).2) c.args.from (way_leaves c.args.way.now) c.in-Ok-put_within.field-0 puts (length c.as_slice.result.now) (omega (arith, c.in-Ok.ensures.room, ap (length {A = ℕ}) c.as_slice.ensures)) c.undo_listed.new.disk
    c.in-Err-undo_listed.ensures.flips.calls (λ stale. c.undo_listed.ensures.none (c.as_slice.ensures ∙ (list stale).1)) c.in-Err-undo_listed.trouble c.in-Err-undo_listed.ensures.refused c.in-Err-undo_listed.ensures.untried
    _ (c.after.ensures ∙ ap (refusal_after _) c.from-in-Err-undo_listed.ensures))

pub give_all-requires : goal.give_all-requires
give_all-requires g c =
    let puts = subst (λ (w : Drafting). PutsWithin g.D.Disk c.args.from (way_leaves c.args.way.now) w c.list_from.new.disk c.put_within.new.disk c.args.space.now c.put_within.new.space (Ok c.in-Ok-put_within.field-0)) c.self.view_is c.in-Ok-put_within.ensures.puts in
    let long = (put_ends c.in-Ok.ensures.reads (λ stale. (c.list_from.ensures.none (λ n. ap (λ (w : Drafting). is_fresh_node w n) c.self.view_is ∙ stale n)).2) c.args.from (way_leaves c.args.way.now) _ puts).moves.cylinders in
    record { on_disk = subst (λ (k : ℕ). All (λ n. n < k) c.as_slice-2.result.now) (omega (arith, c.requires.size, long)) (subst (All (λ n. n < g.D.Disk.blocks c.args.disk.now)) (sym c.as_slice-2.ensures) c.in-Ok.ensures.on_disk) }

pub returns-clause-goes : goal.returns-clause-goes
returns-clause-goes g c = λ v is keeps.
    let puts = subst (λ (w : Drafting). PutsWithin g.D.Disk c.args.from (way_leaves c.args.way.now) w c.list_from.new.disk c.put_within.new.disk c.args.space.now c.put_within.new.space (Ok c.in-Ok-put_within.field-0)) c.self.view_is c.in-Ok-put_within.ensures.puts in
    let listed = c.in-Ok.ensures.listed c.args.space.now c.args.self.now v (parts c.args.self.now _ c.self.view_is) (subst (λ (w : Drafting). IsRead (g.D.Disk.content c.args.disk.now) w c.args.way.now) (sym c.self.view_is) is) in
    drop_done v c.args.from c.args.way.now c.in-Ok.ensures.reads c.requires.limit is c.requires.here keeps c.put_within.new.disk c.put_within.new.space c.in-Ok-put_within.field-0 puts c.as_slice.result.now
    (subst (AreShed (g.D.Disk.content c.args.disk.now) v.id (opened_as c.args.self.now v.draft) c.args.from) (sym c.as_slice.ensures) listed) c.undo_listed.new.disk _ _ c.in-Ok-undo_listed.ensures.flips
    c.give_all.new.space (c.give_all.ensures.given ∙ ap (given_all c.put_within.new.space) (c.as_slice-2.ensures ∙ sym c.as_slice.ensures)) c.forget.new.self
    (subst (λ (w : Drafting). Forgets c.args.from c.in-Ok-put_within.field-0.0 w c.forget.new.self) c.self.view_is (c.forget.ensures c.in-Ok-put_within.field-0.0 c.in-Ok-put_within.ensures.root))

pub returns-clause-calls : goal.returns-clause-calls
returns-clause-calls g c =
    let puts = subst (λ (w : Drafting). PutsWithin g.D.Disk c.args.from (way_leaves c.args.way.now) w c.list_from.new.disk c.put_within.new.disk c.args.space.now c.put_within.new.space (Ok c.in-Ok-put_within.field-0)) c.self.view_is c.in-Ok-put_within.ensures.puts in
    let list = λ (stale : (n : ℕ) → is_fresh_node c.args.self.now n ≡ false). c.list_from.ensures.none (λ n. ap (λ (w : Drafting). is_fresh_node w n) c.self.view_is ∙ stale n) in
    drop_ok_call c.in-Ok.ensures.reads (λ stale. (list stale).2) c.args.from (way_leaves c.args.way.now) c.in-Ok-put_within.field-0 puts (length c.as_slice.result.now) (omega (arith, c.in-Ok.ensures.room, ap (length {A = ℕ}) c.as_slice.ensures)) c.undo_listed.new.disk
    c.in-Ok-undo_listed.ensures.flips.calls (λ stale. c.undo_listed.ensures.none (c.as_slice.ensures ∙ (list stale).1)) c.give_all.new.space c.forget.new.self c.in-Ok-undo_listed.ensures.told c.give_all.ensures.cylinders c.give_all.ensures.left
    (λ stale. c.give_all.ensures.given ∙ ap (given_all c.put_within.new.space) (c.as_slice-2.ensures ∙ (list stale).1)) (subst (λ (w : Drafting). Forgets c.args.from c.in-Ok-put_within.field-0.0 w c.forget.new.self) c.self.view_is (c.forget.ensures c.in-Ok-put_within.field-0.0 c.in-Ok-put_within.ensures.root))
