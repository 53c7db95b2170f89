use Rattle.std.proofs.Common.{◌≡◌, ◌∙◌, List, ℕ, ◌*◌, None, subst}
use Rattle.std.proofs.lemmas.Result.{err_from_is_err_and}
use Rattle.ufs_model.specs.declared.asked.Ref.TheVariants.{Direct}
use Rattle.ufs_model.specs.declared.asked.Request.TheVariants as asks
use Rattle.ufs_model.specs.Asks.{IsAsked, IsExactIn}
use Rattle.name_dirs.proofs.Altering.{starved, writes_row}
use Rattle.name_dirs.proofs.Heard.{file_is}
use Rattle.name_dirs.proofs.changing.write_row.Goals as goal

pub returns-in_err-bytes-clause-went : goal.returns-in_err-bytes-clause-went
returns-in_err-bytes-clause-went g c = λ s f stands runs at special within size.
    let p = err_from_is_err_and c.from_residual.result c.from_residual.ensures.1 in
    rw (p.1, p.2) (starved g.A.Asker c.args.who c.args.asker.now s c.args.table _ 4 None stands)

pub returns-clause-went : goal.returns-clause-went
returns-clause-went g c = λ s f stands runs at special within size.
    let sent : c.new.result ≡ c.args.row.now = c.new.ensures ∙ c.in_ok-bytes.ensures.items in
    rw c.done.ensures (writes_row g.A.Asker c.args.who c.args.asker.now c.ask.new.self s c.args.table runs f (file_is _ f at) special c.args.place c.args.row.now size within c.ask.result (
      subst (λ (bytes : List ℕ). g.A.Asker.asked c.args.asker.now c.args.who (asks.Write (Direct c.args.table) (64 * c.args.place) bytes) c.ask.result c.ask.new.self) sent c.ask.ensures.asked,
      subst (λ (bytes : List ℕ). IsAsked (g.A.Asker.stands c.ask.new.self) (g.A.Asker.seed c.args.asker.now) s c.args.who (asks.Write (Direct c.args.table) (64 * c.args.place) bytes) c.ask.result) sent (c.ask.ensures.event s stands),
      subst (λ (bytes : List ℕ). IsExactIn (g.A.Asker.cylinders c.args.asker.now) s (asks.Write (Direct c.args.table) (64 * c.args.place) bytes) c.ask.result) sent (c.ask.ensures.exact s stands),
    ))
