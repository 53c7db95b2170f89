-- How many device calls and tries of a write the change of a file makes at most.
use Rattle.std.specs.Prelude.{ℕ, ◌+◌}
use Rattle.special_files.specs.Limits.{commit_calls, commit_tries, resize_calls, resize_tries}

-- a special file's root is read, and its draft changed
abbrev pub drafted_calls : ℕ
drafted_calls = 1 + resize_calls

-- the same, and the draft is then committed
abbrev pub change_calls : ℕ
change_calls = drafted_calls + commit_calls

abbrev pub change_tries : ℕ
change_tries = resize_tries + commit_tries
