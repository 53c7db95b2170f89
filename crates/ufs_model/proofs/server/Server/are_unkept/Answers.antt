use Rattle.std.proofs.Common.{◌∙◌, sym, ap, ◌&&◌}
use Rattle.ufs_model.proofs.Words.{leaves_no_reference}
use Rattle.ufs_model.proofs.Unkept.{unkept_is}
use Rattle.ufs_model.proofs.server.Server.are_unkept.Goals as goal

pub returns-then-are_no_starts : goal.returns-then-are_no_starts
returns-then-are_no_starts c =
    c.leaves_no_reference.ensures ∙ ap (λ b. b && leaves_no_reference c.args.self.now.state c.args.ids.now.keys) (sym c.if-are_no_starts.true ∙ c.are_no_starts.ensures)
    ∙ sym (unkept_is c.args.self.now.state c.args.ids.now.keys)

pub returns-else-are_no_starts : goal.returns-else-are_no_starts
returns-else-are_no_starts c =
    c.if-are_no_starts.false ∙ ap (λ b. b && leaves_no_reference c.args.self.now.state c.args.ids.now.keys) (sym c.if-are_no_starts.false ∙ c.are_no_starts.ensures)
    ∙ sym (unkept_is c.args.self.now.state c.args.ids.now.keys)
