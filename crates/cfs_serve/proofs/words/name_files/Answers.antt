use Rattle.std.proofs.Common.{◌∙◌, Global, rules, tests, sym}
use Rattle.cfs_serve.proofs.Cited.{String, YieldsList-from_slice, all_from_yields_List, is_file_word, list_all-map, string_bytes}
use Rattle.cfs_serve.proofs.words.name_files.Goals as goal

pub returns : goal.returns
returns c =
    let words = c.args.words.now in
    all_from_yields_List (λ (w : String Global). is_file_word (string_bytes w)) _ _ c.all.result c.all.ensures.ran (YieldsList-from_slice words cc) (λ x b q k. search (rules, tests))
    ∙ sym (list_all-map is_file_word string_bytes words)
