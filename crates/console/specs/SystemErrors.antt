-- What the system's errors are called. Assumes nothing.
use Rattle.std.specs.Prelude.{ℤ, pos, cond, ◌≡◌, ◌≢◌, Option, None, Some}
use Rattle.std.specs.Ordering.{int_eq}
use Rattle.std.specs.declared.io.ErrorKind.{ErrorKind}
use Rattle.console.specs.declared.system_error.SystemError.{SystemError}

-- the system's error of this number
abbrev pub error_of : ℤ → SystemError
error_of n =
    cond (int_eq n (pos 2)) SystemError.NoFile
    (cond (int_eq n (pos 20)) SystemError.NoFile
    (cond (int_eq n (pos 9)) SystemError.NotOpen
    (cond (int_eq n (pos 13)) SystemError.NotAllowed
    (cond (int_eq n (pos 21)) SystemError.IsDirectory
    (cond (int_eq n (pos 22)) SystemError.NameImpossible
    (cond (int_eq n (pos 36)) SystemError.NameImpossible
    (cond (int_eq n (pos 27)) SystemError.FileTooLarge
    (cond (int_eq n (pos 28)) SystemError.NoSpace
    (cond (int_eq n (pos 32)) SystemError.NobodyReads
    (cond (int_eq n (pos 84)) SystemError.NameNotText (SystemError.Other n)))))))))))

-- e is the error of a call that failed with this number, or, where it did not come to the system, with a kind alone
abbrev pub FailedWith : Option ℤ → ErrorKind → SystemError → Type 0
FailedWith (Some n) kind e = e ≡ error_of n
FailedWith None kind e =
    (kind ≡ ErrorKind.InvalidInput → e ≡ SystemError.NameImpossible)
    × (kind ≢ ErrorKind.InvalidInput → e ≡ SystemError.Other (pos 5))
