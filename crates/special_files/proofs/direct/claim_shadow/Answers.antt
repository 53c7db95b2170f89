use Rattle.std.proofs.Common.{◌≡◌, Err, MatchResult, Ok, Result, ap, subst, sym}
use Rattle.special_files.specs.Committing.{as_refused}
use Rattle.special_files.proofs.Words.{BlockNo, Enters, IsErrAnd, Refused, ShadowRoot, Trouble, intended, refused_by}
use Rattle.special_files.proofs.Endings.{claim_real}
use Rattle.special_files.proofs.direct.claim_shadow.Goals as goal

as_told : (r : Result BlockNo Refused) (s : Result BlockNo Trouble) → MatchResult r (λ n. s ≡ Ok n) (λ e. IsErrAnd s (λ t. refused_by t ≡ e)) → as_refused s ≡ r
as_told (Ok n) s is = ap as_refused is
as_told (Err e) (Ok n) is = absurd is
as_told (Err e) (Err t) is = ap Err is

pub map_err-requires : goal.map_err-requires
map_err-requires g c = λ e is. let enters = rw is at c.intend.ensures.enters in claim_real g.D.Disk c.args.disk.now c.intend.new.disk c.args.space.now e c.requires.room enters.refused

pub returns : goal.returns
returns g c = record { enters = subst (Enters g.D.Disk (intended ShadowRoot c.args.at.0) c.args.disk.now c.intend.new.disk c.args.space.now c.intend.new.self) (sym (as_told _ _ c.map_err.ensures.cases)) c.intend.ensures.enters }
