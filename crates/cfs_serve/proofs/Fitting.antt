-- A disk that fits the volume that the words name is the one that they want.
use Rattle.std.proofs.Common.{ℕ, Bool, List, Option, subst}
use Rattle.cfs_serve.proofs.Cited.{Asked, Audits, Files, FitsVolume, Formats, HasDisk, InFile, InMemory, Inspects, NamesVolume, Nothing, Place, Shows, Spins, Volume}
use Rattle.cfs_serve.specs.Words.{Converses, Dirs, Serves}

-- a service on a volume at this place
abbrev served_at : Place → (seed collections : ℕ) → List Files → Bool → Asked
served_at place seed collections sessions traced = Serves (record { volume = place; seed = seed; collections = collections; sessions = sessions; traced = traced })

fits_place : (volume : Option Volume) (blocks : Option ℕ) (p : Place) (seed collections : ℕ) (sessions : List Files) (traced : Bool)
    → NamesVolume (served_at p seed collections sessions traced) volume → FitsVolume volume blocks → HasDisk (served_at p seed collections sessions traced) blocks
fits_place volume blocks (InMemory cylinders) seed collections sessions traced named fit = subst (λ v. FitsVolume v blocks) named fit
fits_place volume blocks (InFile path pair) seed collections sessions traced named fit = subst (λ v. FitsVolume v blocks) named fit

pub fits : (volume : Option Volume) (blocks : Option ℕ) (a : Asked) → NamesVolume a volume → FitsVolume volume blocks → HasDisk a blocks
fits volume blocks (Formats format) named fit = subst (λ v. FitsVolume v blocks) named fit
fits volume blocks (Serves service) named fit = fits_place volume blocks service.volume service.seed service.collections service.sessions service.traced named fit
fits volume blocks (Spins spin) named fit = subst (λ v. FitsVolume v blocks) named fit
fits volume blocks (Inspects inspection) named fit = subst (λ v. FitsVolume v blocks) named fit
fits volume blocks (Audits trail) named fit = subst (λ v. FitsVolume v blocks) named fit
fits volume blocks (Shows page) named fit = subst (λ v. FitsVolume v blocks) named fit
fits volume blocks (Dirs names) named fit = subst (λ v. FitsVolume v blocks) named fit
fits volume blocks (Converses talk) named fit = subst (λ v. FitsVolume v blocks) named fit
fits volume blocks Nothing named fit = subst (λ v. FitsVolume v blocks) named fit
