-- The laws of numbers that rise stand with the definitions.
pub use Rattle.ufs_model.proofs.Rising.{here, later, in_cons, in_numbers, to_numbers, in_filter, to_filter, in_map, to_map, in_with, with_itself, with_others, in_withs, to_withs, above, all_above, numbers-rise, filter-rises, with_number-rises, with_numbers-rise, IsWithin, same_numbers}
