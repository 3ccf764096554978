-- Each item of a repeat has a track key.
use Rattle.std.proofs.Common.{◌≡◌, ◌+◌, ℕ, suc, List, [], ◌∷◌, ◌++◌, length, Result, Ok, Err, ap, sym, arith, length-append}
use Rattle.ng_base.specs.Meets.{◌>>=◌}
use Rattle.ng_base.specs.Objects.{Object}
use Rattle.ng_base.specs.declared.fault.Fault.{Fault}
use Rattle.ng_blocks.specs.declared.keys.TrackKey.{TrackKey}
use Rattle.ng_drawing.specs.Template.{Repeated}
use Rattle.ng_rows.specs.Tracking.{Item, track_key, track_keys}

pub keys_many : (objects : List Object) (o : ℕ) (w : Repeated) (i : ℕ) (done : List TrackKey) (xs : List Item) (ks : List TrackKey) → track_keys objects o w i done xs ≡ Ok ks → length ks ≡ length done + length xs
keys_many objects o w i done [] ks h = let same : done ≡ ks = cc in let e : length ks ≡ length done = ap (λ (ls : List TrackKey). length ls) (sym same) in omega (arith, e)
keys_many objects o w i done (x ∷ xs) ks h = by_key (track_key objects o w w.track i x) h (λ more g. keys_many objects o w (suc i) more xs ks g)
  where
    by_key : (r : Result TrackKey Fault) → (r >>= λ k. track_keys objects o w (suc i) (done ++ k ∷ []) xs) ≡ Ok ks
        → ((more : List TrackKey) → track_keys objects o w (suc i) more xs ≡ Ok ks → length ks ≡ length more + length xs) → length ks ≡ length done + length (x ∷ xs)
    by_key (Ok k) h all = let more = all (done ++ k ∷ []) h in let one = length-append done (k ∷ []) in omega (arith, more, one)
    by_key (Err f) h all = absurd (cc)
