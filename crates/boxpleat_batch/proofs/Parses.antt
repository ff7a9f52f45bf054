-- What a parse that a simple command takes or refuses comes to.
use Rattle.std.proofs.Common.{◌≡◌, [], Result, Ok, Err, IfOk, IfErr}
use Rattle.clap.specs.Kinds.{FailsBy, HasKind, Kinds}
use Rattle.clap.specs.declared.error.Error.{Error}

pub fails_ok : {T : Type 0} (kinds : Kinds) (r : Result T Error) → FailsBy kinds r → IfOk r (λ m. kinds ≡ [])
fails_ok kinds (Ok m) f = f
fails_ok kinds (Err e) f = tt

pub fails_err : {T : Type 0} (kinds : Kinds) (r : Result T Error) → FailsBy kinds r → IfErr r (HasKind kinds)
fails_err kinds (Ok m) f = tt
fails_err kinds (Err e) f = f
