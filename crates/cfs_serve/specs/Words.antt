-- What the words of a command ask for.
use Rattle.std.specs.Prelude.{ℕ, ◌+◌, ◌*◌, ◌%◌, Bool, true, false, ◌&&◌, ◌==◌, not, nat_lt, nat_le, if◌then◌else◌, List}
use Rattle.std.specs.Prelude.{[], ◌∷◌, length, filter, map, String, string_bytes, Option, Some, None, codes}
use Rattle.std.specs.List.{list_all}
use Rattle.std.specs.Str.{bytes_eq}
use Rattle.ufs_model.specs.Spoken.{Reading, Is, Unbound, Bad, number_in}
use Rattle.cfs_serve.specs.declared.page.Page.{Page}
use Rattle.cfs_serve.specs.declared.page.Page.TheVariants as pages
use Rattle.cfs_serve.specs.Limits.{most_collections, most_cylinders, most_file_cylinders, most_pair_cylinders}
use Rattle.cfs_serve.specs.Limits.{most_lines, most_script, most_sessions, most_trail}

-- where the volume of a service is: a new one in memory, of `cylinders` cylinders, or one in a file, which may be of
-- pairs of blocks
pub data Place : Type 0 where
  InMemory : (cylinders : ℕ) → Place
  InFile : (path : List ℕ) (pair : Bool) → Place

-- the files of a session: where its requests come from, and where its replies go
pub record Files : Type 0 where
  pub input : List ℕ
  pub output : List ℕ

-- a service: its volume, its seed, how many collections are called for, the files of its sessions, and whether its
-- report is the trail
pub record Service : Type 0 where
  pub volume : Place
  pub seed : ℕ
  pub collections : ℕ
  pub sessions : List Files
  pub traced : Bool

-- a volume that is made: its file, its size and its seed, and whether it is of pairs of blocks
pub record Format : Type 0 where
  pub volume : List ℕ
  pub cylinders : ℕ
  pub seed : ℕ
  pub pair : Bool

-- what was read, if something was
abbrev pub read_or_none : {A : Type 0} → Reading A → Option A
read_or_none (Is x) = Some x
read_or_none Unbound = None
read_or_none Bad = None

abbrev pub is_file_word : List ℕ → Bool
is_file_word w = nat_lt 0 (length w)

abbrev pub is_stream : List ℕ → Bool
is_stream w = bytes_eq w (codes "-")

-- words in pairs
abbrev pub files_in : List (List ℕ) → List Files
files_in [] = []
files_in (word ∷ []) = []
files_in (input ∷ output ∷ words) = record { input = input; output = output } ∷ files_in words

abbrev pub inputs_in : List (List ℕ) → List (List ℕ)
inputs_in words = map (λ f. f.input) (files_in words)

abbrev pub outputs_in : List (List ℕ) → List (List ℕ)
outputs_in words = map (λ f. f.output) (files_in words)

-- how many standard streams are among them
abbrev pub streams_in : List (List ℕ) → ℕ
streams_in words = length (filter is_stream words)

-- These are 1 to 64 pairs of file words, and at most one input and one output is a standard stream.
abbrev pub are_files : List (List ℕ) → Bool
are_files words =
    (length words % 2 == 0) && nat_lt 0 (length words) && nat_le (length words) (2 * most_sessions) && list_all
    is_file_word words
    && nat_le (streams_in (inputs_in words)) 1 && nat_le (streams_in (outputs_in words)) 1

abbrev pub play_of : (traced : Bool) (cylinders seed collections : ℕ) (files : List (List ℕ)) → Option Service
play_of traced cylinders seed collections files =
    if nat_lt 0 cylinders && nat_le cylinders most_cylinders && nat_le collections most_collections && are_files files
    then Some (record {
      volume = InMemory cylinders;
      seed = seed;
      collections = collections;
      sessions = files_in files;
      traced = traced;
    }) else None

abbrev pub numbered : (traced : Bool) → Option ℕ → Option ℕ → Option ℕ → List (List ℕ) → Option Service
numbered traced (Some cylinders) (Some seed) (Some collections) files =
    play_of traced cylinders seed collections files
numbered traced (Some cylinders) (Some seed) None files = None
numbered traced (Some cylinders) None collections files = None
numbered traced None seed collections files = None

-- a standard stream is no volume, and no trail
abbrev pub is_volume_word : List ℕ → Bool
is_volume_word w = is_file_word w && not (is_stream w)

abbrev pub serve_of : (pair : Bool) (volume : List ℕ) (seed collections : ℕ) (files : List (List ℕ)) → Option Service
serve_of pair volume seed collections files =
    if is_volume_word volume && nat_le collections most_collections && are_files files
    then Some (record {
      volume = InFile volume pair;
      seed = seed;
      collections = collections;
      sessions = files_in files;
      traced = false;
    }) else None

abbrev pub seeded : (pair : Bool) → List ℕ → Option ℕ → Option ℕ → List (List ℕ) → Option Service
seeded pair volume (Some seed) (Some collections) files = serve_of pair volume seed collections files
seeded pair volume (Some seed) None files = None
seeded pair volume None collections files = None

-- `serve VOLUME SEED COLLECTIONS` or `pair-serve ..`, and then the pairs `IN OUT`
abbrev pub serve_in : List (List ℕ) → Option Service
serve_in (verb ∷ volume ∷ seed ∷ collections ∷ files) =
    if bytes_eq verb (codes "serve") then seeded false volume (read_or_none (number_in seed))
    (read_or_none (number_in collections)) files
    else if bytes_eq verb (codes "pair-serve") then seeded true volume (read_or_none (number_in seed))
    (read_or_none (number_in collections)) files
    else None
serve_in words = None

-- `play CYLINDERS SEED COLLECTIONS` or `trace ..`, and then the pairs `IN OUT`
abbrev pub play_in : List (List ℕ) → Option Service
play_in (verb ∷ cylinders ∷ seed ∷ collections ∷ files) =
    if bytes_eq verb (codes "play") then numbered false (read_or_none (number_in cylinders))
    (read_or_none (number_in seed)) (read_or_none (number_in collections)) files
    else if bytes_eq verb (codes "trace") then numbered true (read_or_none (number_in cylinders))
    (read_or_none (number_in seed)) (read_or_none (number_in collections)) files
    else None
play_in words = None

-- the cylinders of the largest volume that is made, of pairs of blocks or not
abbrev pub most_made : (pair : Bool) → ℕ
most_made true = most_pair_cylinders
most_made false = most_file_cylinders

abbrev format_of : (pair : Bool) (volume : List ℕ) (cylinders seed : ℕ) → Option Format
format_of pair volume cylinders seed =
    if is_volume_word volume && nat_lt 0 cylinders && nat_le cylinders (most_made pair)
    then Some (record { volume = volume; cylinders = cylinders; seed = seed; pair = pair }) else None

abbrev sized : (pair : Bool) → List ℕ → Option ℕ → Option ℕ → Option Format
sized pair volume (Some cylinders) (Some seed) = format_of pair volume cylinders seed
sized pair volume (Some cylinders) None = None
sized pair volume None seed = None

-- `format VOLUME CYLINDERS SEED` or `pair-format ..`
abbrev pub format_in : List (List ℕ) → Option Format
format_in (verb ∷ volume ∷ cylinders ∷ seed ∷ []) =
    if bytes_eq verb (codes "format") then sized false volume (read_or_none (number_in cylinders))
    (read_or_none (number_in seed))
    else if bytes_eq verb (codes "pair-format") then sized true volume (read_or_none (number_in cylinders))
    (read_or_none (number_in seed))
    else None
format_in words = None

-- a page, by its word alone
abbrev pub page_in : List (List ℕ) → Option Page
page_in (word ∷ []) = if bytes_eq word (codes "--help") then Some pages.Help else if bytes_eq word (codes "--version")
    then Some pages.Version else None
page_in words = None

-- a spin: the volume in memory and its seed, and how many lines are drawn for each of its sessions
pub record Spin : Type 0 where
  pub cylinders : ℕ
  pub seed : ℕ
  pub count : ℕ

-- there is room for what the lines may make
abbrev spin_of : (cylinders seed count : ℕ) → Option Spin
spin_of cylinders seed count =
    if nat_lt 0 cylinders && nat_le cylinders most_cylinders && nat_le (12 * count + 64) (63 * cylinders)
    then Some (record { cylinders = cylinders; seed = seed; count = count }) else None

abbrev drawn : Option ℕ → Option ℕ → Option ℕ → Option Spin
drawn (Some cylinders) (Some seed) (Some count) = spin_of cylinders seed count
drawn (Some cylinders) (Some seed) None = None
drawn (Some cylinders) None count = None
drawn None seed count = None

-- `spin CYLINDERS SEED N`
abbrev pub spin_in : List (List ℕ) → Option Spin
spin_in (verb ∷ cylinders ∷ seed ∷ count ∷ []) =
    if bytes_eq verb (codes "spin") then drawn (read_or_none (number_in cylinders)) (read_or_none (number_in seed))
    (read_or_none (number_in count))
    else None
spin_in words = None

-- `audit TRAIL`: the file of a trail
abbrev pub audit_in : List (List ℕ) → Option (List ℕ)
audit_in (verb ∷ trail ∷ []) = if bytes_eq verb (codes "audit") && is_volume_word trail then Some trail else None
audit_in words = None

-- an inspection: the file of a volume, which is mended or only checked
pub record Inspection : Type 0 where
  pub volume : List ℕ
  pub mends : Bool

-- `check VOLUME`
abbrev pub check_in : List (List ℕ) → Option (List ℕ)
check_in (verb ∷ volume ∷ []) = if bytes_eq verb (codes "check") && is_volume_word volume then Some volume else None
check_in words = None

-- `mend VOLUME`
abbrev pub mend_in : List (List ℕ) → Option (List ℕ)
mend_in (verb ∷ volume ∷ []) = if bytes_eq verb (codes "mend") && is_volume_word volume then Some volume else None
mend_in words = None

-- lines of names: the file of a volume, the seed, and where the lines come from and their answers go
pub record NamesService : Type 0 where
  pub volume : List ℕ
  pub seed : ℕ
  pub input : List ℕ
  pub output : List ℕ

abbrev dirs_of : (volume input output : List ℕ) → Option ℕ → Option NamesService
dirs_of volume input output (Some seed) =
    if is_volume_word volume && is_file_word input && is_file_word output
    then Some (record { volume = volume; seed = seed; input = input; output = output }) else None
dirs_of volume input output None = None

-- `dirs VOLUME SEED IN OUT`
abbrev pub dirs_in : List (List ℕ) → Option NamesService
dirs_in (verb ∷ volume ∷ seed ∷ input ∷ output ∷ []) =
    if bytes_eq verb (codes "dirs") then dirs_of volume input output (read_or_none (number_in seed)) else None
dirs_in words = None

-- a conversation: the file of its volume, its seed, after how many lines a collection is called for, and where its
-- lines come from and their replies go
pub record Conversation : Type 0 where
  pub volume : List ℕ
  pub seed : ℕ
  pub every : ℕ
  pub input : List ℕ
  pub output : List ℕ

abbrev converse_of : (volume input output : List ℕ) → Option ℕ → Option ℕ → Option Conversation
converse_of volume input output (Some seed) (Some every) =
    if is_volume_word volume && nat_le every most_lines && is_file_word input && is_file_word output
    then Some (record { volume = volume; seed = seed; every = every; input = input; output = output }) else None
converse_of volume input output (Some seed) None = None
converse_of volume input output None every = None

-- `converse VOLUME SEED EVERY IN OUT`
abbrev pub converse_in : List (List ℕ) → Option Conversation
converse_in (verb ∷ volume ∷ seed ∷ every ∷ input ∷ output ∷ []) =
    if bytes_eq verb (codes "converse") then converse_of volume input output (read_or_none (number_in seed))
    (read_or_none (number_in every))
    else None
converse_in words = None

-- what the words of a command ask for: a page, a volume, an audit of a trail, an inspection of a volume, a spin, a
-- service, lines of names, a conversation, or nothing
pub data Asked : Type 0 where
  Shows : Page → Asked
  Formats : Format → Asked
  Audits : (trail : List ℕ) → Asked
  Inspects : Inspection → Asked
  Spins : Spin → Asked
  Serves : Service → Asked
  Dirs : NamesService → Asked
  Converses : Conversation → Asked
  Nothing : Asked

abbrev either : Option Page → Option Format → (trail check mend : Option (List ℕ)) → (play : Option Service)
    → Option Spin → (serve : Option Service) → (dirs : Option NamesService) → Option Conversation → Asked
either (Some page) format trail check mend play spin serve dirs talk = Shows page
either None (Some format) trail check mend play spin serve dirs talk = Formats format
either None None (Some trail) check mend play spin serve dirs talk = Audits trail
either None None None (Some volume) mend play spin serve dirs talk =
    Inspects (record { volume = volume; mends = false })
either None None None None (Some volume) play spin serve dirs talk = Inspects (record { volume = volume; mends = true })
either None None None None None (Some play) spin serve dirs talk = Serves play
either None None None None None None (Some spin) serve dirs talk = Spins spin
either None None None None None None None (Some serve) dirs talk = Serves serve
either None None None None None None None None (Some names) talk = Dirs names
either None None None None None None None None None (Some talk) = Converses talk
either None None None None None None None None None None = Nothing

abbrev pub asked_in : List (List ℕ) → Asked
asked_in words =
    either (page_in words) (format_in words) (audit_in words) (check_in words) (mend_in words) (play_in words)
    (spin_in words) (serve_in words) (dirs_in words) (converse_in words)

abbrev pub asked_by : {Z : Type 0} → List (String Z) → Asked
asked_by words = asked_in (map string_bytes words)

-- this holds of the service that is asked for, if one is
abbrev pub IfServes : Asked → (Service → Type 0) → Type 0
IfServes (Shows page) holds = Unit {0}
IfServes (Formats format) holds = Unit {0}
IfServes (Audits trail) holds = Unit {0}
IfServes (Inspects inspection) holds = Unit {0}
IfServes (Spins spin) holds = Unit {0}
IfServes (Serves service) holds = holds service
IfServes (Dirs names) holds = Unit {0}
IfServes (Converses talk) holds = Unit {0}
IfServes Nothing holds = Unit {0}

abbrev pub is_service : Asked → Bool
is_service (Shows page) = false
is_service (Formats format) = false
is_service (Audits trail) = false
is_service (Inspects inspection) = false
is_service (Spins spin) = false
is_service (Serves service) = true
is_service (Dirs names) = false
is_service (Converses talk) = false
is_service Nothing = false

-- how many collections are called for
abbrev pub collections_of : Asked → ℕ
collections_of (Shows page) = 0
collections_of (Formats format) = 0
collections_of (Audits trail) = 0
collections_of (Inspects inspection) = 0
collections_of (Spins spin) = 2
collections_of (Serves service) = service.collections
collections_of (Dirs names) = 0
collections_of (Converses talk) = 0
collections_of Nothing = 0

-- the volume's file is one of pairs of blocks
abbrev is_pair_place : Place → Bool
is_pair_place (InMemory cylinders) = false
is_pair_place (InFile path pair) = pair

abbrev pub is_pair : Asked → Bool
is_pair (Shows page) = false
is_pair (Formats format) = format.pair
is_pair (Audits trail) = false
is_pair (Inspects inspection) = false
is_pair (Spins spin) = false
is_pair (Serves service) = is_pair_place service.volume
is_pair (Dirs names) = false
is_pair (Converses talk) = false
is_pair Nothing = false

abbrev pub is_format : Asked → Bool
is_format (Shows page) = false
is_format (Formats format) = true
is_format (Audits trail) = false
is_format (Inspects inspection) = false
is_format (Spins spin) = false
is_format (Serves service) = false
is_format (Dirs names) = false
is_format (Converses talk) = false
is_format Nothing = false

abbrev pub is_audit : Asked → Bool
is_audit (Shows page) = false
is_audit (Formats format) = false
is_audit (Audits trail) = true
is_audit (Inspects inspection) = false
is_audit (Spins spin) = false
is_audit (Serves service) = false
is_audit (Dirs names) = false
is_audit (Converses talk) = false
is_audit Nothing = false

-- this holds of the inspection that is asked for, if one is
abbrev pub IfInspects : Asked → (Inspection → Type 0) → Type 0
IfInspects (Shows page) holds = Unit {0}
IfInspects (Formats format) holds = Unit {0}
IfInspects (Audits trail) holds = Unit {0}
IfInspects (Inspects inspection) holds = holds inspection
IfInspects (Spins spin) holds = Unit {0}
IfInspects (Serves service) holds = Unit {0}
IfInspects (Dirs names) holds = Unit {0}
IfInspects (Converses talk) holds = Unit {0}
IfInspects Nothing holds = Unit {0}

abbrev pub is_inspection : Asked → Bool
is_inspection (Shows page) = false
is_inspection (Formats format) = false
is_inspection (Audits trail) = false
is_inspection (Inspects inspection) = true
is_inspection (Spins spin) = false
is_inspection (Serves service) = false
is_inspection (Dirs names) = false
is_inspection (Converses talk) = false
is_inspection Nothing = false

-- a volume is to be made or mended, and once that is done there is nothing to report
abbrev pub makes_volume : Asked → Bool
makes_volume (Shows page) = false
makes_volume (Formats format) = true
makes_volume (Audits trail) = false
makes_volume (Inspects inspection) = inspection.mends
makes_volume (Spins spin) = false
makes_volume (Serves service) = false
makes_volume (Dirs names) = false
makes_volume (Converses talk) = false
makes_volume Nothing = false

-- the bytes of the longest source
abbrev pub most_in_source : Asked → ℕ
most_in_source (Shows page) = most_script
most_in_source (Formats format) = most_script
most_in_source (Audits trail) = most_trail
most_in_source (Inspects inspection) = most_script
most_in_source (Spins spin) = most_script
most_in_source (Serves service) = most_script
most_in_source (Dirs names) = most_script
most_in_source (Converses talk) = most_script
most_in_source Nothing = most_script
