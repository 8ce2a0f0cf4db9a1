-- What an error of the system means to a link and to its host (own choice; the errors are of read(2), write(2) and accept(2)).
use Rattle.std.specs.Prelude.{◌≡◌, ◌⊎◌}
use Rattle.std.specs.declared.io.ErrorKind.{ErrorKind}
use Rattle.std.specs.declared.io.ErrorKind.TheVariants as kind

-- the socket has nothing to give and no room to take
abbrev pub IsDrained : ErrorKind → Type 0
IsDrained error = error ≡ kind.WouldBlock

-- the call may be made again
abbrev pub IsForNow : ErrorKind → Type 0
IsForNow error = IsDrained error ⊎ (error ≡ kind.Interrupted)

-- the peer is gone, and no octet goes either way any more
abbrev pub IsGone : ErrorKind → Type 0
IsGone error = (error ≡ kind.ConnectionReset) ⊎ (error ≡ kind.ConnectionAborted) ⊎ (error ≡ kind.BrokenPipe)
