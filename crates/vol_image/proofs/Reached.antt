-- The laws of reached sets stand with the definitions.
pub use Rattle.ufs_model.proofs.Reached.{exact_puid, same_puid_is, same_puid_itself, among_one, among_itself, pair_here, Within, IsClosed, within_one, joined_has, joined_has_new, joined_within, reached_within, reached_has, targets_has, reached_is_closed}
