use Rattle.std.proofs.Common.{◌≡◌, ◌∙◌, sym, ap, reverse, [], ◌++◌}
use Rattle.ufs_model.proofs.Words.{Server, after_seen, append-nil, draft_pairs, edges_from, edges_of, flat_map}
use Rattle.ufs_model.specs.declared.collection.Collection.TheVariants as collections
use Rattle.ufs_model.proofs.Remembered.{entries_after}
use Rattle.ufs_model.proofs.server.Server.entries_seen.Goals as goal

pub returns : goal.returns
returns c =
    let s = c.args.self.now.state in
    let first = flat_map (λ e. edges_from e.0 e.1) s.graph.objects in
    let all : c.loop-id.seen.items ≡ first = sym (append-nil c.loop-id.seen.items) ∙ rw c.in-None.ensures.steps.0 at c.loop-id.invariant in
    let grants : c.as_slice.result.now ≡ s.grants = c.as_slice.ensures.value ∙ ap (λ (v : Server). v.state.grants) c.self.view_is in
    let seen = c.in_ok-see_drafts.ensures ∙ ap (λ l. l ++ edges_of (draft_pairs c.as_slice.result.now)) all ∙ ap (λ gs. first ++ edges_of (draft_pairs gs)) grants in
    ap (after_seen (collections.Marking [] [])) (c.reversed.ensures ∙ ap reverse seen) ∙ entries_after s
