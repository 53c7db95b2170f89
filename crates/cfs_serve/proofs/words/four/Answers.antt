use Rattle.std.proofs.Common.{option_map, sym, ◌∙◌, ap}
use Rattle.cfs_serve.specs.Commands.{asked_of, format_of, spin_of}
use Rattle.cfs_serve.proofs.Wording.{four_none}
use Rattle.cfs_serve.proofs.words.four.Goals as goal

pub returns-in_err-spin-in-None : goal.returns-in_err-spin-in-None
returns-in_err-spin-in-None c = ap asked_of c.from_residual.ensures ∙ sym (four_none c.args.verb.now c.args.first.now c.args.second.now c.args.third.now (sym c.format.ensures ∙ ap (option_map format_of) c.in-None.is) (sym c.spin.ensures ∙ ap (option_map spin_of) c.in_err-spin-in-None.was))
