use Rattle.std.proofs.Common.{sym}
use Rattle.ufs_model.specs.Script.{words_of}
use Rattle.cfs_script.specs.Language.{forms_of}
use Rattle.cfs_script.specs.NameTable.{names_of}
use Rattle.cfs_script.proofs.Naming.{is_name-spoken}
use Rattle.cfs_script.proofs.spoken.read_line.Goals as goal

pub new-requires : goal.new-requires
new-requires c =
    let told = rw (c.of.ensures, c.in_ok-request.was) at c.request_in.ensures in
    let named = rw c.of-2.ensures at (sym c.in-Some.ensures) in
    is_name-spoken (forms_of c.args.language.now) (names_of c.args.names.now) (words_of c.args.line.now) c.in-Some.letters.now named
    (λ bad. cc (told, bad))
