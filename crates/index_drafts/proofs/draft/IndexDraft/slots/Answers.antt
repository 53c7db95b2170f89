use Rattle.index_drafts.proofs.Words.{ℕ, ◌/◌, sym, ◌∙◌, ap, Drafting, index_to_leaves, leaves_below}
use Rattle.index_drafts.proofs.draft.IndexDraft.slots.Goals as goal

pub returns-clause-count : goal.returns-clause-count
returns-clause-count c = λ image id d i draft index.
    let root = c.args.self.now.root in
    ap (λ (n : ℕ). n / 8) (c.size.ensures ∙ ap (λ (w : Drafting). w.root.size) c.self.view_is) ∙ sym (index_to_leaves root (leaves_below image root) i (draft.tree.object ∙ index)).size
