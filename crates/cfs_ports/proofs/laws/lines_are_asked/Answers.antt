use Rattle.std.proofs.Common.{[], refl, ap, map, filter}
use Rattle.cfs_ports.proofs.LineLemmas.{split_joined}
use Rattle.ufs_model.specs.Script.{is_request_line, without_cr}
use Rattle.cfs_ports.proofs.laws.lines_are_asked.Goals as goal

pub returns-clause-one : goal.returns-clause-one
returns-clause-one c = λ line within. ap (λ lines. filter is_request_line (map without_cr lines)) (split_joined [] line refl within)

pub returns-clause-all : goal.returns-clause-all
returns-clause-all c = λ lines last all within. ap (λ lines. filter is_request_line (map without_cr lines)) (split_joined lines last all within)
