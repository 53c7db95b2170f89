use Rattle.std.proofs.Common.{List, refl, sym, ◌∙◌, subst}
use Rattle.cfs_recover.proofs.Words.{AreMapsOf, MapEntry}
use Rattle.cfs_recover.proofs.Good.{noted_on}
use Rattle.cfs_recover.proofs.Refused.{caused_err}
use Rattle.cfs_recover.proofs.survey.walk_volume.Goals as goal

pub returns-in_err-walk-clause-cause : goal.returns-in_err-walk-clause-cause
returns-in_err-walk-clause-cause g c = caused_err g.D.Disk _ _ _ _ c.from_residual-in_err-walk.ensures.1 c.in_err-walk.ensures.no_call

pub returns-clause-told : goal.returns-clause-told
returns-clause-told g c image stored grounds are =
    let one = subst (λ (ms : List (List MapEntry)). AreMapsOf image ms) (sym c.deref.ensures.value) are in
    let two = subst (λ (ms : List (List MapEntry)). AreMapsOf image ms) (sym c.deref-2.ensures.value) are in
    let standing = c.in_ok-standing.ensures.told image one in
    let begun = c.in_ok-walk.ensures.told image c.args.grounds.now.label (stored.size ∙ sym c.blocks-2.ensures) grounds.has refl in
    let walked = c.in_ok-walk_all.ensures.told image c.args.grounds.now.label (record { stored = stored; maps_are = two; walk = begun }) standing grounds.has in
    record {
      walk = walked.0.walk;
      noted = noted_on c.in_ok-walk.walk c.walk_all.new.walk c.in_ok-walk_all.ensures.grows c.args.grounds.now.label.root c.in_ok-walk.ensures.noted;
      standing = standing;
      kept = walked.1;
    }

pub returns-clause-by_object : goal.returns-clause-by_object
returns-clause-by_object g c image stored grounds are =
    let one = subst (λ (ms : List (List MapEntry)). AreMapsOf image ms) (sym c.deref.ensures.value) are in
    let two = subst (λ (ms : List (List MapEntry)). AreMapsOf image ms) (sym c.deref-2.ensures.value) are in
    let standing = c.in_ok-standing.ensures.told image one in
    let begun = c.in_ok-walk.ensures.told image c.args.grounds.now.label (stored.size ∙ sym c.blocks-2.ensures) grounds.has refl in
    c.in_ok-walk_all.ensures.by_object image c.args.grounds.now.label (record { stored = stored; maps_are = two; walk = begun }) standing grounds.has
