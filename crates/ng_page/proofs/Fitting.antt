-- Blocks go on having the bodies that they call for.
use Rattle.std.proofs.Common.{◌≡◌, ℕ, Bool, true, false, List, [], ◌∷◌, cond, Option, Some, None, refl, ap, sym, subst, ◌∙◌, arith}
use Rattle.std.specs.Prelude.{◌||◌, ◌&&◌, not, is_some}
use Rattle.std.proofs.lemmas.Bool.Decides.{nat_tests}
use Rattle.std.specs.BTreeMap.{is_at}
use Rattle.std.specs.BTreeSet.{insert_key}
use Rattle.std.specs.List.{AllByRecursion, list_any}
use Rattle.std.specs.Ordering.{nat_cmp}
use Rattle.ng_base.specs.Views.{ViewTree}
use Rattle.ng_base.specs.declared.path.Key.{Key}
use Rattle.ng_drawing.specs.Template.{Outlet}
use Rattle.ng_settling.specs.Settling.{unset_all}
use Rattle.ng_instances.specs.Bindings.{bound_in_table}
use Rattle.ng_instances.specs.Changing.{fills_any, is_drawn_in}
use Rattle.ng_link.specs.Calls.{keeping_at, is_drawn, unset_at}
use Rattle.ng_instances.specs.Instances.{OutletState, Page, Linked, linked_at, linked_for, instance_path, key_in, is_filled_by, is_site_of, is_site_in}
use Rattle.ng_link.specs.State.{State}
use Rattle.ng_build.proofs.Keys.{key_is, same_key, other_key}
use Rattle.ng_instances.proofs.Keeping.{kept-other}
use Rattle.ng_behaviour.specs.Keys.{key_cmp, is_key}
use Rattle.ng_watch.specs.Seen.{Watcher}
use Rattle.ng_watch.specs.Table.{Table, found, keeping, with_kept}
use Rattle.ng_page.specs.PageLaws.{told_itself, told_still}
use Rattle.ng_commands.specs.Settled.{site_keys, cases_under, CallsFor, OutletFits, leads_in, NumbersDiffer, Fits}
use Rattle.ng_commands.proofs.Watched.{all_map, all_both}

-- whether a key is none of these
abbrev pub IsOut : List Key → Key → Type 0
IsOut ks k = list_any (is_key k) ks ≡ false

-- where fewer may differ
pub fits_fewer : (s : State) (ks js : List Key) → ((k : Key) → IsOut js k → IsOut ks k) → Fits ks s → Fits js s
fits_fewer s ks js out h p l at =
    all_map (OutletFits (leads_in s) s.watchers ks (site_keys l.page) l.page.serials l.fragment.outlets) (OutletFits (leads_in s) s.watchers js (site_keys l.page) l.page.serials l.fragment.outlets) l.page.outlets
    (λ x fit site on w e n. fit site on w e (out (key_in l.page x.serial) n)) (h p l at)

-- a watcher keeps something: another key's block has what it had
pub fits_kept : (j : Key) (o : Option ViewTree) (s : State) (ks js : List Key) → ((k : Key) → leads_in s k ≡ true → IsOut js k → (k ≡ j → ⊥) × IsOut ks k) → Fits ks s → Fits js (record s { watchers = with_kept j o s.watchers })
fits_kept j o s ks js other h p l at =
    all_map (OutletFits (leads_in s) s.watchers ks (site_keys l.page) l.page.serials l.fragment.outlets) (OutletFits (leads_in s) (with_kept j o s.watchers) js (site_keys l.page) l.page.serials l.fragment.outlets) l.page.outlets
    (λ x fit site on w e out. let two = other (key_in l.page x.serial) on out in fit site on w (sym (kept-other j (key_in l.page x.serial) o s.watchers two.0) ∙ e) two.1) (h p l at)

both_out : (b c : Bool) → (b || c) ≡ false → (b ≡ false) × (c ≡ false)
both_out true c e = absurd (cc)
both_out false c e = (refl, e)

-- a key that is none of more is none of fewer
pub out_other : (ks : List Key) (k q : Key) → IsOut (insert_key key_cmp ks k) q → q ≡ k → ⊥
out_other ks k q out same = let two : true ≡ false = sym (told_itself ks k) ∙ (ap (λ (x : Key). list_any (is_key x) (insert_key key_cmp ks k)) (sym same) ∙ out) in absurd (cc)

pub out_still : (ks : List Key) (k q : Key) → IsOut (insert_key key_cmp ks k) q → IsOut ks q
out_still ks k q out = by_test (list_any (is_key q) ks) refl
  where
    by_test : (b : Bool) → list_any (is_key q) ks ≡ b → b ≡ false
    by_test true e = let two : true ≡ false = sym (told_still ks k q e) ∙ out in absurd (cc)
    by_test false e = refl

pub fits_with : (k : Key) (s : State) (ks : List Key) → Fits ks s → Fits (insert_key key_cmp ks k) s
fits_with k s ks h = fits_fewer s ks (insert_key key_cmp ks k) (λ q out. out_still ks k q out) h

-- a site keeps a value: all other blocks have what they had
pub fits_keeping : (k : Key) (v : ViewTree) (s : State) (ks : List Key) → Fits ks s → Fits (insert_key key_cmp ks k) (keeping_at k v s)
fits_keeping k v s ks h = fits_kept k (Some v) s ks (insert_key key_cmp ks k) (λ q site out. (out_other ks k q out, out_still ks k q out)) h

-- and so do all where no site keeps it
pub fits_beside : (k : Key) (v : ViewTree) (s : State) (ks : List Key) → leads_in s k ≡ false → Fits ks s → Fits ks (keeping_at k v s)
fits_beside k v s ks none h = fits_kept k (Some v) s ks ks (λ q site out. ((λ same. let two : true ≡ false = sym site ∙ (ap (leads_in s) same ∙ none) in absurd (cc)), out)) h

-- ---- what keeps nothing calls for nothing

pub number_itself : (n : ℕ) → is_at (nat_cmp n) n ≡ true
number_itself n = grind (arith, nat_tests)

free_of : (a b c : Bool) → (a && (not b && not c)) ≡ true → b ≡ false
free_of true true c e = absurd (cc)
free_of true false c e = refl
free_of false b c e = absurd (cc)

-- the outlet's site has another key than this
abbrev IsOther : (Key → Bool) → Key → Page → OutletState → Type 0
IsOther leads k p x = is_site_of p x.serial ≡ true → leads (key_in p x.serial) ≡ true → key_in p x.serial ≡ k → ⊥

-- a site that is drawn fills no outlet
each_other : (leads : Key → Bool) (k : Key) (p : Page) (xs : List OutletState)
    → ((x : OutletState) → is_site_of p x.serial ≡ true → leads (key_in p x.serial) ≡ true → key_in p x.serial ≡ k → fills_any k.serial.0 xs ≡ false) → AllByRecursion (IsOther leads k p) xs
each_other leads k p [] none = tt
each_other leads k p (x ∷ xs) none = (here, each_other leads k p xs (λ y site on same. (both_out (is_filled_by k.serial.0 x) (fills_any k.serial.0 xs) (none y site on same)).1))
  where
    here : IsOther leads k p x
    here site on same =
        let number : x.serial ≡ k.serial.0 = ap (λ (q : Key). q.serial.0) same in
        let off : is_filled_by k.serial.0 x ≡ false = (both_out (is_filled_by k.serial.0 x) (fills_any k.serial.0 xs) (none x site on same)).0 in
        let two : true ≡ false = sym (number_itself x.serial) ∙ (ap (λ (n : ℕ). is_at (nat_cmp n) x.serial) number ∙ off) in
        absurd (cc)

-- A key that leads to a site of a number leads to the instance that has a site of this number.
pub led_to : (s : State) (k : Key) (p : List ℕ) (l m : Linked) → NumbersDiffer s.instances → linked_at p s.instances ≡ Some l → is_site_of l.page k.serial.0 ≡ true → linked_for s.inner k.path s.instances ≡ Some m → is_site_of m.page k.serial.0 ≡ true
    → (p ≡ instance_path s.inner k.path) × (l ≡ m)
led_to s k p l m apart at site found there =
    let one : p ≡ instance_path s.inner k.path = apart p (instance_path s.inner k.path) l m k.serial.0 at found site there in
    let both : ◌≡◌ {A = Option Linked} (Some l) (Some m) = sym at ∙ (ap (λ (q : List ℕ). linked_at q s.instances) one ∙ found) in
    (one, let same : l ≡ m = cc in same)

drawn_other : (k : Key) (s : State) (p : List ℕ) (l : Linked) → NumbersDiffer s.instances → is_drawn s k ≡ true → linked_at p s.instances ≡ Some l → AllByRecursion (IsOther (leads_in s) k l.page) l.page.outlets
drawn_other k s p l apart drawn at = each_other (leads_in s) k l.page l.page.outlets (λ x site on same. by_found x site (ap (leads_in s) (sym same) ∙ on) same (linked_for s.inner k.path s.instances) refl drawn)
  where
    by_found : (x : OutletState) → is_site_of l.page x.serial ≡ true → leads_in s k ≡ true → key_in l.page x.serial ≡ k → (o : Option Linked) → linked_for s.inner k.path s.instances ≡ o → is_drawn s k ≡ true → fills_any k.serial.0 l.page.outlets ≡ false
    by_found x site on same None e d = let two : false ≡ true = sym (ap (λ (o : Option Linked). is_site_in o k) e) ∙ on in absurd (cc)
    by_found x site on same (Some m) e d =
        let number : x.serial ≡ k.serial.0 = ap (λ (q : Key). q.serial.0) same in
        let there : is_site_of m.page k.serial.0 ≡ true = sym (ap (λ (o : Option Linked). is_site_in o k) e) ∙ on in
        let one = led_to s k p l m apart at (ap (is_site_of l.page) (sym number) ∙ site) e there in
        let drawn_m : is_drawn_in (Some m) k ≡ true = sym (ap (λ (o : Option Linked). is_drawn_in o k) e) ∙ d in
        ap (λ (y : Linked). fills_any k.serial.0 y.page.outlets) one.1 ∙ free_of (is_site_of m.page k.serial.0) (fills_any k.serial.0 m.page.outlets) (is_some (bound_in_table k.serial.0 m.page.bounds)) drawn_m

pub kept_here : (k : Key) (o : Option ViewTree) (t : Table) (w : Watcher) → found k (with_kept k o t) ≡ Some w → w.kept ≡ o
kept_here k o [] w e = absurd (cc)
kept_here k o (x ∷ t) w e = by_test (is_key k x.0) refl e (kept_here k o t w)
  where
    by_test : (b : Bool) → is_key k x.0 ≡ b → found k (cond b ((x.0, keeping o x.1) ∷ t) (x ∷ with_kept k o t)) ≡ Some w → (found k (with_kept k o t) ≡ Some w → w.kept ≡ o) → w.kept ≡ o
    by_test true is e more =
        let f : ◌≡◌ {A = Option Watcher} (Some (keeping o x.1)) (Some w) = ap (λ (b : Bool). cond b (Some (keeping o x.1)) (found k t)) (sym is) ∙ e in
        let same : keeping o x.1 ≡ w = cc in
        ap (λ (y : Watcher). y.kept) (sym same)
    by_test false is e more = more (ap (λ (b : Bool). cond b (Some x.1) (found k (with_kept k o t))) (sym is) ∙ e)

pub fits_unset : (k : Key) (s : State) (ks : List Key) → NumbersDiffer s.instances → Fits (k ∷ ks) s → Fits ks (unset_at k s)
fits_unset k s ks apart h = by_drawn (is_drawn s k) refl
  where
    drawn : is_drawn s k ≡ true → Fits ks s
    drawn d p l at =
        all_both (OutletFits (leads_in s) s.watchers (k ∷ ks) (site_keys l.page) l.page.serials l.fragment.outlets) (IsOther (leads_in s) k l.page) (OutletFits (leads_in s) s.watchers ks (site_keys l.page) l.page.serials l.fragment.outlets) l.page.outlets
        (λ x fit other site on w e out.
        fit site on w e (ap (λ (b : Bool). b || list_any (is_key (key_in l.page x.serial)) ks) (other_key (key_in l.page x.serial) k (λ same. other site on (sym same))) ∙ out))
        (h p l at) (drawn_other k s p l apart d at)

    one : (p : Page) (os : List Outlet) (x : OutletState) → OutletFits (leads_in s) s.watchers (k ∷ ks) (site_keys p) p.serials os x → (b : Bool) → is_key (key_in p x.serial) k ≡ b
        → OutletFits (leads_in s) (with_kept k None s.watchers) ks (site_keys p) p.serials os x
    one p os x fit true is site on w e out =
        let same : key_in p x.serial ≡ k = key_is (key_in p x.serial) k is in
        let none : w.kept ≡ None = kept_here k None s.watchers w (ap (λ (q : Key). found q (with_kept k None s.watchers)) (sym same) ∙ e) in
        subst (λ (o : Option ViewTree). CallsFor (cases_under p.serials os x.serial) o x) (sym none) tt
    one p os x fit false is site on w e out =
        let other : key_in p x.serial ≡ k → ⊥ = λ same. let two : true ≡ false = sym (same_key k) ∙ (ap (λ (q : Key). is_key q k) (sym same) ∙ is) in absurd (cc) in
        fit site on w (sym (kept-other k (key_in p x.serial) None s.watchers other) ∙ e) (ap (λ (b : Bool). b || list_any (is_key (key_in p x.serial)) ks) is ∙ out)

    by_drawn : (b : Bool) → is_drawn s k ≡ b → Fits ks (cond b s (record s { watchers = with_kept k None s.watchers }))
    by_drawn true d = drawn d
    by_drawn false d = λ p l at.
        all_map (OutletFits (leads_in s) s.watchers (k ∷ ks) (site_keys l.page) l.page.serials l.fragment.outlets) (OutletFits (leads_in s) (with_kept k None s.watchers) ks (site_keys l.page) l.page.serials l.fragment.outlets) l.page.outlets
        (λ x fit. one l.page l.fragment.outlets x fit (is_key (key_in l.page x.serial) k) refl) (h p l at)

-- what is linked stays
unset_same : (b : Bool) (s t : State) → t.instances ≡ s.instances → (cond b s t).instances ≡ s.instances
unset_same true s t e = refl
unset_same false s t e = e

pub fits_unset_all : (ks : List Key) (s : State) → NumbersDiffer s.instances → Fits ks s → Fits [] (unset_all ks s)
fits_unset_all [] s apart h = h
fits_unset_all (k ∷ ks) s apart h =
    fits_unset_all ks (unset_at k s)
    (subst NumbersDiffer (sym (unset_same (is_drawn s k) s (record s { watchers = with_kept k None s.watchers }) refl)) apart) (fits_unset k s ks apart h)
