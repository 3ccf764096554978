-- Files that are fetched in their order.
use Rattle.std.proofs.Common.{◌≡◌, ◌<◌, ◌≤◌, ◌+◌, ℕ, List, [], ◌∷◌, ◌++◌, map, drop, get_or, length, refl, ap, sym, ◌∙◌, subst, Option, Some, None, arith, inl, inr, length-append}
use Rattle.std.specs.Prelude.{◌⊎◌}
use Rattle.std.proofs.lemmas.List.{at_drop_more}
use Rattle.ng_base.specs.Outside.{longest}
use Rattle.ng_inputs.specs.Files.{File, Inputs, with_file, Telling, Got, failed, too_long, bytes, Brings, Fetched, brought, unread, overlong, FetchedThen, Fetches, Tells, FetchFailed, MayBeLong, MayBeShort, LongFile, HasLong}
use Rattle.ng_inputs.specs.declared.files.Role.{Role}

-- ---- one fetch after another

abbrev Next : Telling → Inputs → File → List File → List (List ℕ) → List (List ℕ) → Fetched → Type 0
Next told i f fs before now end = (g : Got) × Brings (told f.name) g × FetchedThen (λ b. Fetches told (with_file f.role b i) fs before now end) f before now end g

module _ {X : Type 0} (seen : X → File) (told : Telling) (xs : List X) (k : ℕ) (x : X) (inside : k < length xs) (is : x ≡ get_or xs k x) where
  here : (i : Inputs) (before now : List (List ℕ)) (end : Fetched) → Next told i (seen x) (map seen (drop (k + 1) xs)) before now end → Fetches told i (map seen (drop k xs)) before now end
  here i before now end next =
      let cons = at_drop_more (λ zs. map seen zs) xs k x inside in
      subst (λ fs. Fetches told i fs before now end) (sym cons) (subst (λ y. Fetches told i (seen y ∷ map seen (drop (k + 1) xs)) before now end) is next)

  -- a file that came
  pub came : (i o : Inputs) (b : List ℕ) (before now : List (List ℕ)) (end : Fetched) → Brings (told (seen x).name) (bytes b) → o ≡ with_file (seen x).role b i
      → Fetches told o (map seen (drop (k + 1) xs)) before now end → Fetches told i (map seen (drop k xs)) before now end
  came i o b before now end h e rest = here i before now end (bytes b, h, subst (λ j. Fetches told j (map seen (drop (k + 1) xs)) before now end) e rest)

  -- the fetch that failed
  pub stopped : (i : Inputs) (before now : List (List ℕ)) → now ≡ before ++ (seen x).name ∷ [] → Fetches told i (map seen (drop k xs)) before now (unread (seen x))
  stopped i before now e = here i before now (unread (seen x)) (failed, tt, (e, refl))

  -- a file that is too long
  pub ran_over : (i : Inputs) (n : ℕ) (before now : List (List ℕ)) → Brings (told (seen x).name) (too_long n) → now ≡ before → Fetches told i (map seen (drop k xs)) before now (overlong (seen x).role n)
  ran_over i n before now h e = here i before now (overlong (seen x).role n) (too_long n, h, (e, refl))

-- ---- what the fetches bring

-- a list did not grow and grew
not_grown : (xs : List (List ℕ)) (x : List ℕ) → xs ≡ xs ++ x ∷ [] → ⊥
not_grown xs x e = let n = ap length e ∙ length-append xs (x ∷ []) in absurd (omega arith)

-- where no fetch failed, and the shelf tells files of which none is too long, they are what came
pub tells_brought : (told : Telling) (fs : List File) (i all : Inputs) (before now : List (List ℕ)) (end : Fetched) → Fetches told i fs before now end → Tells told i fs all → now ≡ before → end ≡ brought all
tells_brought told [] i all before now end (e, is) t same = is ∙ ap brought (sym t)
tells_brought told (f ∷ fs) i all before now end (failed, h, (e, is)) t same = absurd (not_grown before f.name (sym same ∙ e))
tells_brought told (f ∷ fs) i all before now end (too_long n, h, (e, is)) (b, tells, short, rest) same =
    let over : Brings (Some b) (too_long n) = subst (λ o. Brings o (too_long n)) tells h in
    absurd (omega (arith, over, short))
tells_brought told (f ∷ fs) i all before now end (bytes c, h, next) (b, tells, short, rest) same =
    let read : Brings (Some b) (bytes c) = subst (λ o. Brings o (bytes c)) tells h in
    tells_brought told fs (with_file f.role b i) all before now end (subst (λ d. Fetches told (with_file f.role d i) fs before now end) read.1 next) rest same

-- the name of a file that didn't come joined the list
pub unread_failed : (told : Telling) (fs : List File) (i : Inputs) (before now : List (List ℕ)) (f : File) → Fetches told i fs before now (unread f) → FetchFailed fs before now
unread_failed told [] i before now f (e, is) = absurd (cc)
unread_failed told (g ∷ fs) i before now f (failed, h, (e, is)) = (g.name, inl refl, e)
unread_failed told (g ∷ fs) i before now f (too_long n, h, (e, is)) = absurd (cc)
unread_failed told (g ∷ fs) i before now f (bytes b, h, next) = let r = unread_failed told fs (with_file g.role b i) before now f next in (r.0, inr r.1, r.2)

abbrev pub IsUnread : Fetched → Type 0
IsUnread end = (f : File) × (end ≡ unread f)

-- and where a name joined it, a file didn't come
pub failed_unread : (told : Telling) (fs : List File) (i : Inputs) (before now : List (List ℕ)) (name : List ℕ) (end : Fetched) → Fetches told i fs before now end → now ≡ before ++ name ∷ [] → IsUnread end
failed_unread told [] i before now name end (e, is) grown = absurd (not_grown before name (sym e ∙ grown))
failed_unread told (g ∷ fs) i before now name end (failed, h, (e, is)) grown = (g, is)
failed_unread told (g ∷ fs) i before now name end (too_long n, h, (e, is)) grown = absurd (not_grown before name (sym e ∙ grown))
failed_unread told (g ∷ fs) i before now name end (bytes b, h, next) grown = failed_unread told fs (with_file g.role b i) before now name end next grown

may_be_long : (o : Option (List ℕ)) (n : ℕ) → Brings o (too_long n) → MayBeLong o
may_be_long None n b = tt
may_be_long (Some f) n b = subst (λ k. longest < k) (sym b.1) b.0

may_be_short : (o : Option (List ℕ)) (b : List ℕ) → Brings o (bytes b) → MayBeShort o
may_be_short None b h = tt
may_be_short (Some f) b h = h.0

pub overlong_long : (told : Telling) (fs : List File) (i : Inputs) (before now : List (List ℕ)) (role : Role) (n : ℕ) → Fetches told i fs before now (overlong role n) → LongFile told fs
overlong_long told [] i before now role n (e, is) = absurd (cc)
overlong_long told (f ∷ fs) i before now role n (failed, h, (e, is)) = absurd (cc)
overlong_long told (f ∷ fs) i before now role n (too_long m, h, (e, is)) = inl (may_be_long (told f.name) m h)
overlong_long told (f ∷ fs) i before now role n (bytes b, h, next) = inr (may_be_short (told f.name) b h, overlong_long told fs (with_file f.role b i) before now role n next)

abbrev pub IsOverlong : Fetched → Type 0
IsOverlong end = (role : Role) × (n : ℕ) × (end ≡ overlong role n)

long_one : (told : Telling) (f : File) (fs : List File) (i : Inputs) (before now : List (List ℕ)) (end : Fetched) (b : List ℕ) (g : Got) → Brings (Some b) g
    → FetchedThen (λ c. Fetches told (with_file f.role c i) fs before now end) f before now end g → longest < length b → now ≡ before → IsOverlong end
long_one told f fs i before now end b failed h next l same = absurd (not_grown before f.name (sym same ∙ next.0))
long_one told f fs i before now end b (too_long n) h next l same = (f.role, n, next.1)
long_one told f fs i before now end b (bytes c) h next l same = absurd (omega (arith, h, l))

long_then : (told : Telling) (f : File) (fs : List File) (i : Inputs) (before now : List (List ℕ)) (end : Fetched) (g : Got) → FetchedThen (λ c. Fetches told (with_file f.role c i) fs before now end) f before now end g
    → now ≡ before → ((c : List ℕ) → Fetches told (with_file f.role c i) fs before now end → IsOverlong end) → IsOverlong end
long_then told f fs i before now end failed next same more = absurd (not_grown before f.name (sym same ∙ next.0))
long_then told f fs i before now end (too_long n) next same more = (f.role, n, next.1)
long_then told f fs i before now end (bytes c) next same more = more c next

long_by : (told : Telling) (f : File) (fs : List File) (i : Inputs) (before now : List (List ℕ)) (end : Fetched) (b : List ℕ) (g : Got) → Brings (Some b) g → FetchedThen (λ c. Fetches told (with_file f.role c i) fs before now end) f before now end g
    → now ≡ before → (longest < length b) ⊎ ((length b ≤ longest) × HasLong told fs) → (HasLong told fs → (c : List ℕ) → Fetches told (with_file f.role c i) fs before now end → IsOverlong end) → IsOverlong end
long_by told f fs i before now end b g h next same (inl l) more = long_one told f fs i before now end b g h next l same
long_by told f fs i before now end b g h next same (inr k) more = long_then told f fs i before now end g next same (more k.1)

pub long_overlong : (told : Telling) (fs : List File) (i : Inputs) (before now : List (List ℕ)) (end : Fetched) → Fetches told i fs before now end → HasLong told fs → now ≡ before → IsOverlong end
long_overlong told [] i before now end h long same = absurd long
long_overlong told (f ∷ fs) i before now end (g, h, next) (b, tells, some) same =
    long_by told f fs i before now end b g (subst (λ o. Brings o g) tells h) next same some (λ k c r. long_overlong told fs (with_file f.role c i) before now end r k same)
