-- Heads and frames on whole lists: no encoding is a proper prefix of another.
use Rattle.std.proofs.Common.{◌≡◌, ℕ, ◌<◌, ◌≤◌, Bool, true, false, List, [], ◌∷◌, ◌++◌, length, take, drop, Option, Some, refl, sym, ap, subst, ◌∙◌, append_assoc, arith}
use Rattle.std.specs.Prelude.{MatchOption}
use Rattle.std.specs.Int.{w64, from_be_bytes}
use Rattle.std.proofs.lemmas.Nat.{from_be_bytes-to_be_bytes_8}
use Rattle.std.proofs.lemmas.List.{length-append, append-nil, take_at, drop_at, take-append-le, take-append-drop}
use Rattle.spec_zmtp.specs.declared.flags.FrameKind.{FrameKind}
use Rattle.spec_zmtp.specs.declared.flags.Flags.{Flags}
use Rattle.spec_zmtp.specs.FrameFlags.{flags_octet, flags_at}
use Rattle.spec_zmtp.specs.FrameEncoding.{WireFrame, IsWireFrame, IsHead, IsCutHead, FitsSize, head_octets, size_octets, size_length, octets_of}
use Rattle.spec_zmtp.proofs.FlagLemmas.{flags_of, flags_at-flags_octet}

-- lists of equal length that begin one list are equal
pub same_front : (a b x y : List ℕ) → length a ≡ length b → a ++ x ≡ b ++ y → (a ≡ b) × (x ≡ y)
same_front a b x y len e = (
  sym (take_at a x (length b) len) ∙ ap (λ (l : List ℕ). take (length b) l) e ∙ take_at b y (length b) refl,
  sym (drop_at a x (length b) len) ∙ ap (λ (l : List ℕ). drop (length b) l) e ∙ drop_at b y (length b) refl,
)

pub length-size_octets : (long : Bool) (size : ℕ) → length (size_octets long size) ≡ size_length long
length-size_octets true size = refl
length-size_octets false size = refl

size_of : (long : Bool) (m n : ℕ) → FitsSize long m → FitsSize long n → size_octets long m ≡ size_octets long n → m ≡ n
size_of true m n p q e = sym (from_be_bytes-to_be_bytes_8 m p) ∙ ap (λ (l : List ℕ). from_be_bytes w64 l) e ∙ from_be_bytes-to_be_bytes_8 n q
size_of false m n p q e = cc

-- what two heads that begin one list have in common
pub record SameHead (j k : FrameKind) (l l' : Bool) (m n : ℕ) (x y : List ℕ) : Type 0 where
  pub kind : j ≡ k
  pub long : l ≡ l'
  pub size : m ≡ n
  pub rest : x ≡ y

same_flags : (j k : FrameKind) (l l' : Bool) → flags_octet j l ≡ flags_octet k l' → (j ≡ k) × (l ≡ l')
same_flags j k l l' e =
    let p : ◌≡◌ {A = Option Flags} (Some (flags_of j l)) (Some (flags_of k l')) = sym (flags_at-flags_octet j l) ∙ ap flags_at e ∙ flags_at-flags_octet k l' in
    let q : flags_of j l ≡ flags_of k l' = cc in
    (ap (λ (f : Flags). f.kind) q, ap (λ (f : Flags). f.long) q)

pub one_head : (j k : FrameKind) (l l' : Bool) (m n : ℕ) (x y : List ℕ) → FitsSize l m → FitsSize l' n → head_octets j l m ++ x ≡ head_octets k l' n ++ y → SameHead j k l l' m n x y
one_head j k l l' m n x y p q e =
    let flags : flags_octet j l ≡ flags_octet k l' = cc in
    let both = same_flags j k l l' flags in
    let tails : size_octets l m ++ x ≡ size_octets l' n ++ y = cc in
    let tails' : size_octets l' m ++ x ≡ size_octets l' n ++ y = subst (λ (b : Bool). size_octets b m ++ x ≡ size_octets l' n ++ y) both.1 tails in
    let cut = same_front (size_octets l' m) (size_octets l' n) x y (length-size_octets l' m ∙ sym (length-size_octets l' n)) tails' in
    let p' : FitsSize l' m = subst (λ (b : Bool). FitsSize b m) both.1 p in
    record { kind = both.0; long = both.1; size = size_of l' m n p' q cut.0; rest = cut.1 }

wire : FrameKind → Bool → List ℕ → WireFrame
wire kind long body = record { kind = kind; long = long; body = body }

pub record SameFrame (f g : WireFrame) (x y : List ℕ) : Type 0 where
  pub frame : f ≡ g
  pub rest : x ≡ y

-- two frames that begin one list are the same frame
pub one_frame : (f g : WireFrame) (x y : List ℕ) → IsWireFrame f → IsWireFrame g → octets_of f ++ x ≡ octets_of g ++ y → SameFrame f g x y
unfolding wire
one_frame f g x y p q e =
    let whole : head_octets f.kind f.long (length f.body) ++ (f.body ++ x) ≡ head_octets g.kind g.long (length g.body) ++ (g.body ++ y) =
    sym (append_assoc (head_octets f.kind f.long (length f.body)) f.body x) ∙ e ∙ append_assoc (head_octets g.kind g.long (length g.body)) g.body y in
    let h = one_head f.kind g.kind f.long g.long (length f.body) (length g.body) (f.body ++ x) (g.body ++ y) p.fits q.fits whole in
    let cut = same_front f.body g.body x y h.size h.rest in
    record {
      frame = ap (λ (k : FrameKind). wire k f.long f.body) h.kind ∙ ap (λ (l : Bool). wire g.kind l f.body) h.long ∙ ap (λ (b : List ℕ). wire g.kind g.long b) cut.0;
      rest = cut.1;
    }

-- octets that begin with a whole head are not cut in it
pub not_cut : (kind : FrameKind) (long : Bool) (size : ℕ) (rest : List ℕ) → IsCutHead (head_octets kind long size ++ rest) → ⊥
not_cut kind long size rest p =
    let r = subst (λ (x : Option Flags). MatchOption x ⊥ (λ f. length (size_octets long size ++ rest) < size_length f.long)) (flags_at-flags_octet kind long) p in
    omega (arith, r, length-size_octets long size, length-append (size_octets long size) rest)

-- one more octet makes a cut head whole with nothing left over
pub exact_head : (octets : List ℕ) (octet : ℕ) (kind : FrameKind) (size : ℕ) (front rest : List ℕ) → IsCutHead octets → IsHead kind size front → octets ++ octet ∷ [] ≡ front ++ rest → IsHead kind size (octets ++ octet ∷ [])
exact_head octets octet kind size front [] p h e = subst (λ (x : List ℕ). IsHead kind size x) (sym (e ∙ append-nil front)) h
exact_head octets octet kind size front (r ∷ rest) p h e =
    let le : length front ≤ length octets = omega (arith, ap length e, length-append octets (octet ∷ []), length-append front (r ∷ rest)) in
    let same : take (length front) octets ≡ front = sym (take-append-le (length front) octets (octet ∷ []) le) ∙ ap (λ (x : List ℕ). take (length front) x) e ∙ take_at front (r ∷ rest) (length front) refl in
    let split : octets ≡ front ++ drop (length front) octets = sym (take-append-drop (length front) octets) ∙ ap (λ (x : List ℕ). x ++ drop (length front) octets) same in
    let cut : IsCutHead (head_octets kind h.0 size ++ drop (length front) octets) = subst (λ (x : List ℕ). IsCutHead (x ++ drop (length front) octets)) h.2 (subst (λ (x : List ℕ). IsCutHead x) split p) in
    absurd (not_cut kind h.0 size (drop (length front) octets) cut)
