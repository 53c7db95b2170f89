-- The laws of graphs stand with the definitions.
pub use Rattle.ufs_model.proofs.Graphs.{found, object_at-with_object, found-filter, object_at-without, is_there-ids, there_from, object_there, ids-count, sorted_from_rises, rises-filter, keys_of-filter, rises-entries, same_entries, refers, has_pair-refers, pair_from_index, index_has_pair}
