use Rattle.std.proofs.Common.{◌≡◌, ◌↔◌, ◌∙◌, List, true, sym, ap, subst}
use Rattle.ufs_model.proofs.Words.{IsReachedBy, Progress, Puid, Seen, Server, beside, collection_of, has_all_cut_off, is_among, reached_since}
use Rattle.ufs_model.proofs.Unkept.{cut_off_is, reached_same}
use Rattle.ufs_model.proofs.follower.Follower.has_all_cut_off.Goals as goal

pub returns-in_ok-reached-in-Marking : goal.returns-in_ok-reached-in-Marking
returns-in_ok-reached-in-Marking c =
    let reached = c.in_ok-reached-in-Marking.reached.keys in
    let gone = c.args.gone.now.keys in
    let known = subst (λ (l : List Seen). (x : Puid) → (is_among x reached ≡ true) ↔ IsReachedBy l x) c.as_slice.ensures.value c.in_ok-reached-in-Marking.ensures in
    let same = λ (x : Puid). reached_same c.in-Marking.seen.items reached known x ∙ ap (λ (p : Progress). is_among x (reached_since (collection_of p))) (sym c.in-Marking.is) in
    subst (λ (v : Server). c.are_all.result ≡ has_all_cut_off v.state gone) c.self.view_is
    (c.are_all.ensures ∙ cut_off_is (beside c.self.inside.server.state c.self.inside.stopped (collection_of c.self.inside.progress)) reached gone same)
