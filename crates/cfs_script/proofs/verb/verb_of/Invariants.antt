use Rattle.std.proofs.Common.{◌≡◌, drop}
use Rattle.ufs_model.specs.Spoken.{form_of}
use Rattle.cfs_script.specs.Language.{forms_of}
use Rattle.cfs_script.proofs.verb.verb_of.Given as goal

-- what is left decides
abbrev pub invariant-language : goal.invariant-language
invariant-language l = form_of (forms_of l.language) l.word ≡ form_of (forms_of (drop l.verb-index l.language)) l.word
