-- A look of a socket at the front of the pipe that one of its ends reads (own choice, after libzmq's `pipe_t::check_read`).
use Rattle.std.specs.Prelude.{◌≡◌, true, List, [], ◌∷◌, Option, Some, None}
use Rattle.zq_base.specs.declared.ids.EndId.{EndId}
use Rattle.spec_pattern.specs.PipeStep.{read_through}
use Rattle.msg_pipe.specs.Known.{Known}
use Rattle.msg_pipe.specs.Told.{front_step}
use Rattle.msg_pipe.specs.declared.pipes.Front.{Front}
use Rattle.msg_pipe.specs.declared.pipes.Front.TheVariants.{Delimiter}
use Rattle.end_table.specs.Rows.{table}
use Rattle.end_table.specs.Runs.{DoesAll}
use Rattle.any_sock.specs.declared.any_sock.AnySock.{AnySock}
use Rattle.end_table.specs.declared.table.Place.{Place}
use Rattle.end_table.specs.Places.{writes_in, met_in}
use Rattle.sock_core.specs.declared.sock.SockCore.{SockCore}
use Rattle.sock_core.specs.Holding.{KeepsButEnds}

module _ {N I : Type 0} where
  -- the same place, at which the end has met its delimiter at least as before
  pub record IsButMet (p q : Place N I) : Type 0 where
    pub same : q ≡ record p { met = q.met }
    pub still : p.met ≡ true → q.met ≡ true

  -- the same places, one by one
  abbrev pub AreButMet : (ps qs : List (Place N I)) → Type 0
  AreButMet [] [] = Unit {0}
  AreButMet [] (q ∷ qs) = ⊥
  AreButMet (p ∷ ps) [] = ⊥
  AreButMet (p ∷ ps) (q ∷ qs) = IsButMet p q × AreButMet ps qs

module _ {W N O I : Type 0} where
  -- the end is held with its writing half
  abbrev pub HasWhole : EndId → Option (SockCore AnySock W N O I) → Type 0
  HasWhole e None = ⊥
  HasWhole e (Some s) = writes_in s.ends.places.items e ≡ true

  module _ {S : Type 0} (K : Known S O I N) where
    -- one look at the front found this; an end that finds the delimiter has met it, and all else of the socket is as it was
    pub record LooksOnce (e : EndId) (found : Front) (before : S) (s : SockCore AnySock W N O I) (now : S) (t : SockCore AnySock W N O I) : Type 0 where
      pub does : DoesAll K (table before s.ends.rows.items) (front_step (read_through e) found ∷ []) (table now t.ends.rows.items)
      pub places : AreButMet s.ends.places.items t.ends.places.items
      pub met : found ≡ Delimiter → met_in t.ends.places.items e ≡ true
      pub rest : KeepsButEnds s t

    abbrev pub LooksSo : EndId → Front → S → Option (SockCore AnySock W N O I) → S → Option (SockCore AnySock W N O I) → Type 0
    LooksSo e found before None now new = ⊥
    LooksSo e found before (Some s) now None = ⊥
    LooksSo e found before (Some s) now (Some t) = LooksOnce e found before s now t
