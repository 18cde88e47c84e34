-- What a spool says of an error of its device. (profile)
use Rattle.spool.specs.declared.device_error.DeviceError.{DeviceError}
use Rattle.spool.specs.declared.device_error.DeviceError.TheVariants as device
use Rattle.spool.specs.declared.error.SpoolError.{SpoolError}
use Rattle.spool.specs.declared.error.SpoolError.TheVariants as errors

-- the same error
abbrev pub spool_error : DeviceError → SpoolError
spool_error device.Memory = errors.Memory
spool_error device.Failed = errors.Failed
