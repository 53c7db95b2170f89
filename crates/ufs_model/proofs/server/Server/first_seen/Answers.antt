use Rattle.std.proofs.Common.{◌≡◌, ◌∙◌, ◌∷◌, Vec, Global, ap, subst, add-one, drop, get_or, ◌+◌, List}
use Rattle.ufs_model.proofs.Words.{Puid, Seen, Server, drop-cons, is_among, open_ids, pairs_of}
use Rattle.ufs_model.proofs.Spreading.{was_in, was_out}
use Rattle.ufs_model.proofs.Remembered.{IsSeeing, seeing_first, seen_else, seen_then}
use Rattle.ufs_model.proofs.server.Server.first_seen.Goals as goal
use Rattle.ufs_model.proofs.server.Server.first_seen.Goals.{then-branch+in_ok-push-2, else-branch}

pub ids-init : goal.ids-init
ids-init c =
    let s = c.args.self.now.state in
    seeing_first (pairs_of s) (open_ids s) c.as_slice-id-items.result.now s.graph.root c.self.inside.root c.in_ok-seen.seen.items c.push.new.self.items c.new-open.result.keys c.insert.new.self.keys
    c.in_ok-seen.ensures c.in_ok-push.ensures.items (ap (λ (v : Server). v.state.graph.root) c.self.view_is) c.new-open.ensures.empty
    (c.as_slice-id-items.ensures.value ∙ c.in_ok-ids.ensures) c.in_ok-insert.ensures.updates.0

pub ids-preserved : goal.ids-preserved
ids-preserved c =
    let s = c.args.self.now.state in
    let none : Puid = record { block = 0; word = 0 } in
    let ids = c.as_slice-id-items.result.now in
    let k = c.ids.id-index in
    let x = get_or ids k none in
    let keys = c.ids.«open».keys in
    let cut : drop k ids ≡ x ∷ drop (k + 1) ids = rw add-one (drop-cons ids k none c.ids-test.true) in
    let h = subst (λ (l : List Puid). IsSeeing (pairs_of s) (open_ids s) l s.graph.root c.ids.seen.items keys) cut c.ids.invariant in
    elim c.if-branch.branch [
      | then-branch+in_ok-push-2 w ↦
          seen_then (pairs_of s) (open_ids s) (drop (k + 1) ids) s.graph.root x c.ids.seen.items c.if-branch.seen.items keys c.insert-in-ids.new.self.keys h
          (ap (λ (v : Vec Seen Global). v.items) w.seen-is ∙ w.in_ok-push-2.ensures.items) (was_out (is_among x keys) _ c.in_ok-insert-2.ensures.added w.if-branch.true) c.in_ok-insert-2.ensures.updates.0
      | else-branch w ↦
          seen_else (pairs_of s) (open_ids s) (drop (k + 1) ids) s.graph.root x c.ids.seen.items c.if-branch.seen.items keys c.insert-in-ids.new.self.keys h
          (ap (λ (v : Vec Seen Global). v.items) w.seen-is) (was_in (is_among x keys) _ c.in_ok-insert-2.ensures.added w.if-branch.false) (rw w.if-branch.false at c.in_ok-insert-2.ensures.unchanged)
    ]
