-- Where no end of a socket began to read on, none reads on.
use Rattle.std.proofs.Common.{◌≡◌, ◌∙◌, ◌&&◌, ℕ, zero, suc, Bool, true, false, List, [], ◌∷◌, Option, Some, None, drop, refl, ap, subst, if◌then◌else◌}
use Rattle.spec_control.specs.Place.{At}
use Rattle.spec_run.specs.OpenSocket.{awaits_delimiter}
use Rattle.desk.specs.declared.given.Given.{Given}
use Rattle.msg_pipe.specs.Known.{Known}
use Rattle.any_sock.specs.Over.{peer_places}
use Rattle.any_sock.specs.declared.any_sock.AnySock.{AnySock}
use Rattle.end_table.specs.declared.table.Place.{Place}
use Rattle.sock_core.specs.Peers.{AreInUse}
use Rattle.sock_core.specs.declared.sock.SockCore.{SockCore}
use Rattle.sock_calls.specs.Calls.{FitsPipes}
use Rattle.plain_desk.specs.Lent.{Lent}
use Rattle.line_socket.specs.Owned.{IsThereFor}
use Rattle.line_socket.specs.Readers.{held_places, readers_in, readers_from, ReadIfBegan}

module _ {N I : Type 0} where
  none_held : (ps : List (Place N I)) → AreInUse false ps → (n : ℕ) → readers_in (drop n (held_places ps)) ≡ []
  none_held [] used zero = refl
  none_held [] used (suc n) = refl
  none_held (p ∷ ps) used n = by (none_held ps (λ k. used (suc k))) p.held refl n where
    by : ((m : ℕ) → readers_in (drop m (held_places ps)) ≡ []) → (b : Bool) → p.held ≡ b → (m : ℕ) → readers_in (drop m (if p.held then p ∷ held_places ps else held_places ps)) ≡ []
    by behind true is m = ap (λ (y : Bool). readers_in (drop m (if y then p ∷ held_places ps else held_places ps))) is ∙ first m where
      first : (k : ℕ) → readers_in (drop k (p ∷ held_places ps)) ≡ []
      first zero =
          ap (λ (y : Bool). if y && awaits_delimiter (At p.state) then p.end ∷ readers_in (held_places ps) else readers_in (held_places ps)) is
          ∙ ap (λ (y : Bool). if y then p.end ∷ readers_in (held_places ps) else readers_in (held_places ps)) ((used zero p refl is).1 refl)
          ∙ behind zero
      first (suc k) = behind k
    by behind false is m = ap (λ (y : Bool). readers_in (drop m (if y then p ∷ held_places ps else held_places ps))) is ∙ behind m

module _ {W N O I : Type 0} where
  pub none_reads : (o : Option (SockCore AnySock W N O I)) (s : SockCore AnySock W N O I) → o ≡ Some s → ReadIfBegan o → s.reads ≡ false → (n : ℕ) → readers_from o n ≡ []
  none_reads o s is began none n =
      ap (λ x. readers_from x n) is
      ∙ none_held s.ends.places.items (subst (λ (b : Bool). AreInUse b s.ends.places.items) none (subst (λ x. ReadIfBegan x) is began)) n

  module _ {S : Type 0} (K : Known S O I N) (pipes : S) where
    pub fits_began : (o : Option (SockCore AnySock W N O I)) → FitsPipes K peer_places pipes o → ReadIfBegan o
    fits_began None fits = tt
    fits_began (Some s) fits = fits.in_use

    pub agrees_began : {T : Type 0} (d : Lent (Given N O I) N T) (n : ℕ) (o : Option (SockCore AnySock W N O I)) → IsThereFor K pipes d n o → ReadIfBegan o
    agrees_began d n None is = tt
    agrees_began d n (Some s) is = is.owned.stands.fits.in_use
