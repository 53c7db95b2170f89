-- The forms of lines that are read, by their verbs.
use Rattle.std.specs.Prelude.{List, map}
use Rattle.ufs_model.specs.Spoken.{Form, create_file_form, create_index_form, retain_form, retrieve_form, delete_form}
use Rattle.ufs_model.specs.Spoken.{slots_form, open_form, close_form, read_form, write_form, size_form, resize_form}
use Rattle.cfs_script.specs.declared.verb.Verb.{Verb}
use Rattle.cfs_script.specs.declared.verb.Verb.TheVariants as verbs

-- the form that begins with this verb
abbrev pub form_of_verb : Verb → Form
form_of_verb verbs.CreateFile = create_file_form
form_of_verb verbs.CreateIndex = create_index_form
form_of_verb verbs.Retain = retain_form
form_of_verb verbs.Retrieve = retrieve_form
form_of_verb verbs.Delete = delete_form
form_of_verb verbs.Slots = slots_form
form_of_verb verbs.Open = open_form
form_of_verb verbs.Close = close_form
form_of_verb verbs.Read = read_form
form_of_verb verbs.Write = write_form
form_of_verb verbs.Size = size_form
form_of_verb verbs.Resize = resize_form

-- a language: the forms of these verbs
abbrev pub forms_of : List Verb → List Form
forms_of language = map form_of_verb language
