-- What an inspection comes to, by what is told of it.
use Rattle.std.proofs.Common.{◌≡◌, inl, inr, ◌≤◌, Bool, true, false, List, refl, sym, ◌∙◌, arith}
use Rattle.cfs_serve.proofs.Cited.{Asked, Audits, Cause, CompletesInspection, Damage, Formats, Ground, IfInspects, Inspection, Inspects, IsInspected, NoCountRose, Nothing, Outside, RoseIn, Shows, is_inspection, most_inspected, status_of}
use Rattle.cfs_serve.specs.Words.{Converses, Dirs, Serves, Spins}
use Rattle.cfs_serve.specs.declared.report.Cause.TheVariants as causes

clash : true ≡ false → ⊥
clash e = cc

never : false ≡ true → ⊥
never e = cc

-- what holds of the inspection that is asked for
pub each_inspected : (asked : Asked) (P Q : Inspection → Type 0) → IfInspects asked P → ((i : Inspection) → asked ≡ Inspects i → P i → Q i) → IfInspects asked Q
each_inspected (Inspects inspection) P Q is then = then inspection refl is
each_inspected (Shows page) P Q is then = tt
each_inspected (Formats format) P Q is then = tt
each_inspected (Audits trail) P Q is then = tt
each_inspected (Serves service) P Q is then = tt
each_inspected (Spins spin) P Q is then = tt
each_inspected (Dirs names) P Q is then = tt
each_inspected (Converses talk) P Q is then = tt
each_inspected Nothing P Q is then = tt

pub of_inspected : (asked : Asked) (P : Inspection → Type 0) → is_inspection asked ≡ true → IfInspects asked P → (i : Inspection) × P i
of_inspected (Inspects inspection) P inspects is = (inspection, is)
of_inspected (Shows page) P inspects is = absurd (never inspects)
of_inspected (Formats format) P inspects is = absurd (never inspects)
of_inspected (Audits trail) P inspects is = absurd (never inspects)
of_inspected (Serves service) P inspects is = absurd (never inspects)
of_inspected (Spins spin) P inspects is = absurd (never inspects)
of_inspected (Dirs names) P inspects is = absurd (never inspects)
of_inspected (Converses talk) P inspects is = absurd (never inspects)
of_inspected Nothing P inspects is = absurd (never inspects)

-- where no limit was passed and no count rose
pub completes : (ground : Ground) (mends : Bool) (old new : Outside) (cause : Cause) (listed : List Damage) → IsInspected ground mends (RoseIn old.disk new.disk) cause listed
    → ground.blocks ≤ most_inspected → NoCountRose old new → CompletesInspection ground mends (status_of cause)
completes ground mends old new (causes.Sound objects left) listed is few quiet = record { sound = λ graph reads. inl refl; unsound = λ checks so. absurd (is.tells.2 so); any = inl refl }
completes ground mends old new causes.Nothing listed is few quiet = record { sound = λ graph reads. inl refl; unsound = λ checks so. absurd (clash (sym is.tells.0 ∙ checks)); any = inl refl }
completes ground mends old new (causes.Volume fault) listed is few quiet = record { sound = λ graph reads. absurd (is.tells.0 graph reads); unsound = λ checks so. inl refl; any = inr (inl refl) }
completes ground mends old new (causes.Disk moment) listed is few quiet = absurd (quiet.disk is.tells.1)
completes ground mends old new causes.Memory listed is few quiet = record { sound = λ graph reads. inr refl; unsound = λ checks so. inr refl; any = inr (inr refl) }
completes ground mends old new causes.LongVolume listed is few quiet = let far = is.long.0 refl in absurd (omega (arith, far, few))
completes ground mends old new cause listed is few quiet = absurd is.tells
