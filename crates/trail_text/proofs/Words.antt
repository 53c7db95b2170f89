-- What lemmas of this crate name of the crates below, and of its own definitions.
pub use Rattle.cfs_base.specs.declared.identifier.Puid.{Puid}
pub use Rattle.cfs_base.specs.declared.identifier.Tuid.{Tuid}
pub use Rattle.cfs_base.specs.declared.kind.FileKind.{FileKind}
pub use Rattle.cfs_base.specs.declared.kind.Mode.{Mode}
pub use Rattle.cfs_script.proofs.WordLemmas.{eight, own}
pub use Rattle.hex.proofs.HexLemmas.{decode_of-encode_lower, decode_of-ok, decode_sized-encode_lower, decode_sized-ok, decode_sized-twice, length-encode_with}
pub use Rattle.hex.specs.Hex.{IsBytes, decode_sized, encode_lower, lower_digits}
pub use Rattle.std.proofs.lemmas.Bool.{and_from, and_parts, cases_lt, eqb-true, false_from_ne_true, false≢true, le-leb, leb-true, lt-ltb, ltb-true, not-true, true≢false}
pub use Rattle.std.proofs.lemmas.Fmt.{decimal_is_IsNumeral, digits_decimal, digits_value-decimal, length-decimal-le}
pub use Rattle.std.proofs.lemmas.Iterator.Consumers.{map_from_collect}
pub use Rattle.std.proofs.lemmas.Iterator.Splits.{YieldsList-from_slice_split}
pub use Rattle.std.proofs.lemmas.Grind.{flat_map-append}
pub use Rattle.std.proofs.lemmas.List.{append-nil, append_assoc, drop-map, drop_all, length-drop, length-map, map-append, take_all}
pub use Rattle.std.proofs.lemmas.List.Folds.{list_all-append}
pub use Rattle.std.proofs.lemmas.List.Splits.{slice_split_at, slice_split_none}
pub use Rattle.std.proofs.lemmas.List.Sums.{AllPass-from_list_all}
pub use Rattle.std.proofs.lemmas.Nat.{from_be_bytes-to_be_bytes_4}
pub use Rattle.std.proofs.lemmas.Slice.Eq.{bytes_eq-Decides}
pub use Rattle.std.specs.Char.{is_ascii_digit}
pub use Rattle.std.specs.Fmt.{decimal}
pub use Rattle.std.specs.Int.{byte_at, bytes_high_first, from_be_bytes, to_be_bytes, w32}
pub use Rattle.std.specs.List.{All, flat_map, join_with_byte, list_all}
pub use Rattle.std.specs.Prelude.{codes, nat_le, nat_lt, slice_index}
pub use Rattle.std.specs.Str.{all_ascii_digits, bytes_eq}
pub use Rattle.std.specs.String.{string_bytes}
pub use Rattle.trail_text.specs.EventLine.{Row, Token, are_within, bytes_within, event_line, event_row, event_shaped, event_within, fits, form_told, in_32, in_64, in_8, is_clear, is_within, is_word_byte, letters, row_line, ref_within, reply_shaped, reply_tokens, reply_within, reply_words, request_shaped, request_tokens, request_within, request_words, spaced, spell, word_within, row_words}
pub use Rattle.trail_text.specs.Read.{IsNoLine, IsNoneOf, as_grant, ask_read, byte_read, bytes_read, event_read, id_of_bytes, id_read, is, kind_read, mode_read, number_if_any, number_read, opening_read, read_32, read_8, ref_read, reply_read, request_read, status_read, texts, unread_read, word_at, words_in}
pub use Rattle.trail_text.specs.Trail.{begun, ended, has_no_end, opening_fits, opening_line, opening_row, status_line, status_row}
pub use Rattle.trail_text.specs.declared.ends.Opening.{Opening}
pub use Rattle.trail_text.specs.declared.shape.Form.{Form}
pub use Rattle.ufs_model.specs.Identifier.{rise_from}
pub use Rattle.ufs_model.specs.Printed.{id_digits, reply_line}
pub use Rattle.ufs_model.specs.Script.{LF}
pub use Rattle.ufs_model.specs.declared.asked.Event.{Event}
pub use Rattle.ufs_model.specs.declared.asked.Ref.{Ref}
pub use Rattle.ufs_model.specs.declared.asked.Ref.TheVariants.{Direct, Through}
pub use Rattle.ufs_model.specs.declared.asked.Reply.{Reply}
pub use Rattle.ufs_model.specs.declared.asked.Request.{Request}
pub use Rattle.ufs_model.specs.declared.asked.Unread.{Unread}
