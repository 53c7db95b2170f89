use Rattle.cfs_recover.proofs.Accounted.{tidied_accounts, tidied_is_swept}
use Rattle.cfs_recover.proofs.laws.tidied_volumes_have_their_objects_alone.Goals as goal

pub returns : goal.returns
returns c = record { accounts = tidied_accounts; swept = tidied_is_swept }
